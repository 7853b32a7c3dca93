-- The part of a log that its last step leads to by references.
use Rattle.std.specs.Prelude.{◌≡◌, ℕ, ◌+◌, ◌<◌, ◌≤◌, List, length, slice_index}
use Rattle.std.specs.Prelude.{All, AllPairs, Contains}
use Rattle.pol_nogood.specs.Logs.{StepView, step_at}

-- the last step is needed, and so is each earlier step that a needed one refers to
pub data IsNeeded (log : List StepView) : ℕ → Type 0 where
  last : (s : ℕ) → s + 1 ≡ length log → IsNeeded log s
  referred : (s t : ℕ) → s < t → IsNeeded log t → Contains (step_at log t).references s → IsNeeded log s

-- the numbers of the needed steps, in ascending order
pub record AreNeeded (log : List StepView) (numbers : List ℕ) : Type 0 where
  pub ascending : AllPairs (λ s t. s < t) numbers
  pub only : All (IsNeeded log) numbers
  pub all : (s : ℕ) → IsNeeded log s → Contains numbers s

-- a reference of step s is to the same step by its new number, its place among those kept; one that is not
-- to an earlier step stays as it is
pub record IsRenumbered (numbers : List ℕ) (s : ℕ) (before now : ℕ) : Type 0 where
  pub kept : before < s → now < length numbers
  pub same : before < s → slice_index numbers now ≡ before
  pub wild : s ≤ before → now ≡ before

-- a step is step s as it was, with its references renumbered
pub record IsCopy (numbers : List ℕ) (s : ℕ) (before now : StepView) : Type 0 where
  pub same_basis : now.basis ≡ before.basis
  pub same_nogood : now.nogood ≡ before.nogood
  pub as_many : length now.references ≡ length before.references
  pub renumbered : (i : ℕ) → i < length before.references
      → IsRenumbered numbers s (slice_index before.references i) (slice_index now.references i)

-- the needed steps in their order, with their references renumbered
pub record IsTrimmed (log part : List StepView) : Type 0 where
  pub numbers : List ℕ
  pub are_needed : AreNeeded log numbers
  pub as_many : length part ≡ length numbers
  pub copies : (i : ℕ) → i < length part
      → IsCopy numbers (slice_index numbers i) (step_at log (slice_index numbers i)) (step_at part i)

-- a later step refers to it
pub record IsReferredTo (log : List StepView) (s : ℕ) : Type 0 where
  pub by : ℕ
  pub later : s < by
  pub known : by < length log
  pub refers : Contains (step_at log by).references s

-- each step but the last is referred to by a later one
abbrev pub AreReferredTo : List StepView → Type 0
AreReferredTo log = (s : ℕ) → s + 1 < length log → IsReferredTo log s
