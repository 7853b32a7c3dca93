-- How the needed steps of a log are found and copied: marks of steps, and new numbers for references.
use Rattle.std.specs.Prelude.{◌≡◌, ◌↔◌, ◌⊎◌, Bool, true, false, ℕ}
use Rattle.std.specs.Prelude.{◌<◌, List, length, map, slice_index_or, Contains}
use Rattle.pol_nogood.specs.Logs.{StepView}
use Rattle.pol_nogood.specs.Trims.{IsNeeded}

-- the mark at the number is set
abbrev pub IsMarked : List Bool → ℕ → Type 0
IsMarked marks s = slice_index_or marks s false ≡ true

-- a mark for each step, set where the step is needed
pub record AreMarks (log : List StepView) (marks : List Bool) : Type 0 where
  pub as_many : length marks ≡ length log
  pub exact : (s : ℕ) → IsMarked marks s ↔ IsNeeded log s

-- the marks that were set before, and those at the references, as far as there are marks
pub record MarksToo (references : List ℕ) (before now : List Bool) : Type 0 where
  pub as_many : length now ≡ length before
  pub kept : (s : ℕ) → IsMarked before s → IsMarked now s
  pub marked : (s : ℕ) → s < length before → Contains references s → IsMarked now s
  pub only : (s : ℕ) → IsMarked now s → IsMarked before s ⊎ Contains references s

-- what stands at the number, and the number itself where nothing does
abbrev pub renumbered : List ℕ → ℕ → ℕ
renumbered numbers r = slice_index_or numbers r r

-- the step with the references renumbered
abbrev pub copy_by : List ℕ → StepView → StepView
copy_by numbers s = record { basis = s.basis; nogood = s.nogood; references = map (renumbered numbers) s.references }
