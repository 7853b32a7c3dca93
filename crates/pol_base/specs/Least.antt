-- The least list with a property, in lexicographic order.
use Rattle.std.specs.Prelude.{◌≡◌, ℕ, List, length, Option, MatchOption}
use Rattle.pol_base.specs.Tuples.{IsBefore}

-- the list has the property, and no list of its length that has it comes before
pub record IsLeast (P : List ℕ → Type 0) (xs : List ℕ) : Type 0 where
  pub holds : P xs
  pub first : (ys : List ℕ) → length ys ≡ length xs → P ys → ¬ IsBefore ys xs

-- the least list with the property, and none exactly where no list has it
abbrev pub AnswersLeast : (List ℕ → Type 0) → Option (List ℕ) → Type 0
AnswersLeast P answer = MatchOption answer ((ys : List ℕ) → ¬ P ys) (IsLeast P)
