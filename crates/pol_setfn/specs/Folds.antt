-- Set functions that fold an operation of two arguments.
use Rattle.std.specs.Prelude.{◌≡◌, ◌<◌, ◌≤◌, ℕ, List, [], ◌∷◌, length, All}
use Rattle.pol_base.specs.Masks.{mask_of}
use Rattle.pol_optable.specs.Operations.{Operation, value_at}
use Rattle.pol_optable.specs.SetFunctions.{SetFunctionView, value_of_set}

-- the operation applied to the values from the last on
abbrev pub fold_of : Operation → List ℕ → ℕ
fold_of f [] = 0
fold_of f (v ∷ []) = v
fold_of f (v ∷ w ∷ values) = value_at f (v ∷ fold_of f (w ∷ values) ∷ [])

-- the value of each set is the fold of its members, in any order and with repeats
pub record IsFold (f : Operation) (g : SetFunctionView) : Type 0 where
  pub same_domain : g.domain ≡ f.domain
  pub folds : (values : List ℕ) → 1 ≤ length values → All (λ v. v < f.domain) values
      → value_of_set g (mask_of values) ≡ fold_of f values

-- the value is the fold of the members of the mask
abbrev pub IsFoldAt : Operation → ℕ → ℕ → Type 0
IsFoldAt f mask a =
    (values : List ℕ)
    → 1 ≤ length values
    → All (λ v. v < f.domain) values
    → mask_of values ≡ mask
    → a ≡ fold_of f values
