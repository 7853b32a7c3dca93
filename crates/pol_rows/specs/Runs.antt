-- Runs of rows that agree before a place, among rows in ascending order.
use Rattle.std.specs.Prelude.{◌≡◌, ℕ, ◌≤◌, List, length, take}
use Rattle.std.specs.Prelude.{drop, slice_index, Contains, Option, MatchOption}
use Rattle.pol_rows.specs.RowLists.{row_of}

-- the number is listed, and its row has the value at the place
pub record HasAt (rows : List (List ℕ)) (numbers : List ℕ) (i v p : ℕ) : Type 0 where
  pub listed : Contains numbers p
  pub there : slice_index (row_of rows p) i ≡ v

-- a listed number whose row has the value at the place
pub record SomeHasAt (rows : List (List ℕ)) (numbers : List ℕ) (i v : ℕ) : Type 0 where
  pub number : ℕ
  pub has : HasAt rows numbers i v number

-- the least number of which this holds
pub record IsLeastNumber (P : ℕ → Type 0) (p : ℕ) : Type 0 where
  pub holds : P p
  pub least : (q : ℕ) → P q → p ≤ q

-- that number, and none exactly where this holds of none
abbrev pub AnswersLeastNumber : (ℕ → Type 0) → Option ℕ → Type 0
AnswersLeastNumber P answer = MatchOption answer ((p : ℕ) → ¬ P p) (IsLeastNumber P)

-- the least numbers whose rows have a and b at the place, and none exactly where no row has a or none b
abbrev pub AnswersLeastWith : List (List ℕ) → List ℕ → ℕ → ℕ → ℕ → Option (ℕ × ℕ) → Type 0
AnswersLeastWith rows numbers i a b answer =
    MatchOption answer ((p q : ℕ) → HasAt rows numbers i a p → ¬ HasAt rows numbers i b q)
    (λ pair. IsLeastNumber (HasAt rows numbers i a) pair.0 × IsLeastNumber (HasAt rows numbers i b) pair.1)

-- the rows of the numbers agree before the place
abbrev pub Agree : List (List ℕ) → ℕ → ℕ → ℕ → Type 0
Agree rows i p q = take i (row_of rows p) ≡ take i (row_of rows q)

-- the first so many rows agree before the place, and with none of those behind
pub record IsRun (rows : List (List ℕ)) (numbers : List ℕ) (i count : ℕ) : Type 0 where
  pub some : 1 ≤ count
  pub within : count ≤ length numbers
  pub agree : (p q : ℕ) → Contains (take count numbers) p → Contains (take count numbers) q → Agree rows i p q
  pub apart : (p q : ℕ) → Contains (take count numbers) p → Contains (drop count numbers) q
      → ¬ Agree rows i p q
