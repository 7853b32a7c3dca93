-- Lists of rows of one width, and the numbers of rows that show a triple of their signature.
use Rattle.std.specs.Prelude.{◌≡◌, ℕ, ◌<◌, ◌≤◌, ◌*◌, ◌⊎◌, List, [], length, take}
use Rattle.std.specs.Prelude.{slice_index, slice_index_or, All}
use Rattle.pol_base.specs.Tuples.{IsDomain, IsTuple}
use Rattle.pol_relation.specs.Relations.{tuples_in}

-- rows of one width, in the order in which they came; one may repeat
pub record RowsView : Type 0 where
  pub domain : ℕ
  pub width : ℕ
  pub rows : List (List ℕ)

-- at most 2^20 tuples of at most 4,096 values
pub record IsRows (r : RowsView) : Type 0 where
  pub domain_is : IsDomain r.domain
  pub some_places : 1 ≤ r.width
  pub few_places : r.width ≤ 4096
  pub few_rows : length r.rows ≤ 1048576
  pub tuples : All (IsTuple r.domain r.width) r.rows

-- so many rows that stand one behind another in a list of values
pub record IsFlat (d n count : ℕ) (values : List ℕ) : Type 0 where
  pub domain_is : IsDomain d
  pub some_places : 1 ≤ n
  pub few_places : n ≤ 4096
  pub few_rows : count ≤ 1048576
  pub long : length values ≡ count * n
  pub below : All (λ v. v < d) values

-- the rows that stand there
abbrev pub rows_in : ℕ → ℕ → ℕ → List ℕ → RowsView
rows_in d n count values = record { domain = d; width = n; rows = tuples_in n count values }

-- the row with the number
abbrev pub row_of : List (List ℕ) → ℕ → List ℕ
row_of rows p = slice_index_or rows p []

-- the rows with the numbers p and q agree before place i and have a and b there
pub record IsShownBy (rows : List (List ℕ)) (i a b p q : ℕ) : Type 0 where
  pub first_known : p < length rows
  pub second_known : q < length rows
  pub same_before : take i (row_of rows p) ≡ take i (row_of rows q)
  pub first_at : slice_index (row_of rows p) i ≡ a
  pub second_at : slice_index (row_of rows q) i ≡ b

-- the pair p, q does not come behind the pair j, k
abbrev pub IsNotBehind : ℕ → ℕ → ℕ → ℕ → Type 0
IsNotBehind p q j k = (p < j) ⊎ ((p ≡ j) × (q ≤ k))

-- the least pair of numbers of rows that agree before place i and have a and b there
pub record IsLeastPair (rows : List (List ℕ)) (i a b p q : ℕ) : Type 0 where
  pub shown : IsShownBy rows i a b p q
  pub least : (j k : ℕ) → IsShownBy rows i a b j k → IsNotBehind p q j k
