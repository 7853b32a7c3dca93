use Rattle.std.proofs.Common.{ℕ, ◌<◌, get_or}
use Rattle.std.specs.Prelude.{IsBitSet}
use Rattle.pol_optable.specs.ValueWords.{IsReadAt}
use Rattle.pol_optable.proofs.value_rows.ValueRows.read_all.Given as goal

abbrev pub invariant-loop-place : goal.invariant-loop-place
invariant-loop-place l = (p v : ℕ) → p < l.place → IsBitSet (get_or l.masks p 0) v → IsReadAt l.self l.words p v
