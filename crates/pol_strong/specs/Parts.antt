-- Tuples that agree at some places, and sets of tuples that an operation preserves.
use Rattle.std.specs.Prelude.{◌≡◌, ℕ, List, length, slice_index, All}
use Rattle.pol_base.specs.Tuples.{IsTuple}
use Rattle.pol_optable.specs.Operations.{Operation, image}

-- the two lists have the same value at each of the places
abbrev pub SameAt : List ℕ → List ℕ → List ℕ → Type 0
SameAt places s t = All (λ j. slice_index s j ≡ slice_index t j) places

-- a tuple of the set that agrees with t at the places
pub record Agrees (T : List ℕ → Type 0) (t places : List ℕ) : Type 0 where
  pub row : List ℕ
  pub inside : T row
  pub same : SameAt places row t

-- a set of n-tuples of values of the operation's domain, which the operation preserves
pub record KeepsTuples (f : Operation) (n : ℕ) (T : List ℕ → Type 0) : Type 0 where
  pub tuples : (t : List ℕ) → T t → IsTuple f.domain n t
  pub images : (ts : List (List ℕ)) → length ts ≡ f.arity → All T ts → T (image f n ts)
