-- Numbers of rows in ascending order of these rows.
use Rattle.std.specs.Prelude.{◌≡◌, ℕ, ◌<◌, ◌≤◌, List, length, slice_index, All, Contains}
use Rattle.std.specs.List.Sorted.{IsNonDecreasingBy}
use Rattle.pol_base.specs.Tuples.{cell_of}
use Rattle.pol_relation.specs.Relations.{tuples_in}
use Rattle.pol_rows.specs.RowLists.{row_of, IsFlat}

-- numbers of rows, which ascend as the numbers do that the rows write in base d
pub record AreAscending (d : ℕ) (rows : List (List ℕ)) (numbers : List ℕ) : Type 0 where
  pub known : All (λ p. p < length rows) numbers
  pub ascending : IsNonDecreasingBy (λ p. cell_of d (row_of rows p)) numbers

-- the numbers of all rows, each once
pub record IsOrder (d : ℕ) (rows : List (List ℕ)) (order : List ℕ) : Type 0 where
  pub are_ascending : AreAscending d rows order
  pub all : (p : ℕ) → p < length rows → Contains order p
  pub as_many : length order ≡ length rows

-- where the row stands among the numbers: the rows before are not greater, and those behind are not less
pub record IsPlaceFor (d : ℕ) (rows : List (List ℕ)) (numbers row : List ℕ) (place : ℕ) : Type 0 where
  pub within : place ≤ length numbers
  pub before : (k : ℕ) → k < place → cell_of d (row_of rows (slice_index numbers k)) ≤ cell_of d row
  pub behind : (k : ℕ) → place ≤ k → k < length numbers
      → cell_of d row ≤ cell_of d (row_of rows (slice_index numbers k))

-- rows that stand one behind another, and their order
pub record AreStored (d n count : ℕ) (values order : List ℕ) : Type 0 where
  pub flat : IsFlat d n count values
  pub ordered : IsOrder d (tuples_in n count values) order
