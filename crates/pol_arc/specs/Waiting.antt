-- Constraints that wait to be looked at again.
use Rattle.std.specs.Prelude.{◌≡◌, ◌<◌, ℕ, Bool, true, false, List, length, slice_index_or, Contains}
use Rattle.pol_relation.specs.Relations.{LanguageView}
use Rattle.pol_relation.specs.Instances.{InstanceView, constraint_of}
use Rattle.pol_arc.specs.Arcs.{SupportsAll}

-- the constraint does not wait
abbrev pub IsDone : List Bool → ℕ → Type 0
IsDone waits c = slice_index_or waits c true ≡ false

-- a constraint that does not wait supports each value
abbrev pub DoneAreSupported : LanguageView → InstanceView → List ℕ → List Bool → Type 0
DoneAreSupported lang inst masks waits =
    (c : ℕ) → c < length inst.constraints → IsDone waits c → SupportsAll lang inst masks c

-- a constraint that does not wait now did not wait before, and supports each value if it did before
pub record KeepsDone (lang : LanguageView) (inst : InstanceView)
    (masks : List ℕ) (waits : List Bool) (new_masks : List ℕ) (new_waits : List Bool) : Type 0 where
  pub long : length new_waits ≡ length waits
  pub before : (c : ℕ) → c < length inst.constraints → IsDone new_waits c → IsDone waits c
  pub kept : (c : ℕ) → c < length inst.constraints → IsDone new_waits c
      → SupportsAll lang inst masks c → SupportsAll lang inst new_masks c

-- the constraints that have the variable in their scope wait, and else those that waited before
pub record IsTouched (inst : InstanceView) (x : ℕ) (waits new_waits : List Bool) : Type 0 where
  pub long : length new_waits ≡ length waits
  pub before : (c : ℕ) → c < length inst.constraints → IsDone new_waits c → IsDone waits c
  pub apart : (c : ℕ) → c < length inst.constraints → IsDone new_waits c
      → ¬ Contains (constraint_of inst c).scope x
