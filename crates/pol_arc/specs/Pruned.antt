-- Masks beside the log of the values that were deleted from them.
use Rattle.std.specs.Prelude.{◌≡◌, ◌<◌, ◌≤◌, ◌↔◌, ◌^◌, ℕ, List, [], ◌∷◌, ◌++◌}
use Rattle.std.specs.Prelude.{length, slice_index, All, IsBitSet}
use Rattle.pol_relation.specs.Relations.{LanguageView}
use Rattle.pol_relation.specs.Instances.{InstanceView}
use Rattle.pol_nogood.specs.Nogoods.{Pair, IsContained}
use Rattle.pol_nogood.specs.Logs.{Basis, StepView, reading, value_case, value_cases, nogood_at, FitsMost}
use Rattle.pol_nogood.specs.ValidLogs.{AreValid, HasReferences}
use Rattle.pol_arc.specs.Arcs.{AreMasksOf, HoldsArcs}

-- some step has the value at the variable as its nogood
pub record IsDeleted (log : List StepView) (x a : ℕ) : Type 0 where
  pub step : ℕ
  pub known : step < length log
  pub nogood : nogood_at log step ≡ value_case x a

-- each value that is not in its mask was deleted by a step
abbrev pub HasSteps : (n d : ℕ) → List ℕ → List StepView → Type 0
HasSteps n d masks log = (x a : ℕ) → x < n → a < d → ¬ IsBitSet (slice_index masks x) a → IsDeleted log x a

-- the nogood is a value that is not in the mask of its variable
pub record IsGone (n d : ℕ) (masks : List ℕ) (nogood : List Pair) : Type 0 where
  pub variable : ℕ
  pub value : ℕ
  pub variable_known : variable < n
  pub value_known : value < d
  pub pair : nogood ≡ value_case variable value
  pub gone : ¬ IsBitSet (slice_index masks variable) value

-- masks without what the log deletes, which no arc-consistent masks have
pub record IsPruned (lang : LanguageView) (inst : InstanceView) (masks : List ℕ) (log : List StepView) : Type 0 where
  pub are_masks : AreMasksOf lang inst masks
  pub has_steps : HasSteps (length inst.variables) lang.domain masks log
  pub all_gone : All (λ s. IsGone (length inst.variables) lang.domain masks s.nogood) log
  pub valid : AreValid lang inst log
  pub fits : FitsMost 1 log
  pub greatest : HoldsArcs lang inst masks

-- the masks without one value
pub record IsWithout (d : ℕ) (masks : List ℕ) (x a : ℕ) (new : List ℕ) : Type 0 where
  pub long : length new ≡ length masks
  pub below : All (λ m. m < 2 ^ d) masks → All (λ m. m < 2 ^ d) new
  pub gone : ¬ IsBitSet (slice_index new x) a
  pub others : (y b : ℕ)
      → b < d
      → ¬ ((y ≡ x) × (b ≡ a))
      → IsBitSet (slice_index new y) b ↔ IsBitSet (slice_index masks y) b

-- a reference for a row of which a value was deleted
pub record IsReference (log : List StepView) (scope row : List ℕ) (r : ℕ) : Type 0 where
  pub known : r < length log
  pub within : IsContained (nogood_at log r) (reading scope row)

-- pruned further, or not at all, and then the masks are settled
pub record Prunes (lang : LanguageView) (inst : InstanceView) (Settled : List ℕ → Type 0)
    (masks : List ℕ) (log : List StepView) (new_masks : List ℕ) (new_log : List StepView) : Type 0 where
  pub pruned : IsPruned lang inst new_masks new_log
  pub grown : length log ≤ length new_log
  pub same : length new_log ≤ length log → new_masks ≡ masks
  pub settled : length new_log ≤ length log → Settled new_masks

-- the log with a last step by the variable, for all of whose values there are steps
pub record IsWipedLog (log : List StepView) (v d : ℕ) (new : List StepView) : Type 0 where
  pub references : List ℕ
  pub referred : HasReferences log [] (value_cases v d) references
  pub last : new ≡ log ++ (record { basis = Basis.ByVariable v; nogood = []; references = references }) ∷ []
