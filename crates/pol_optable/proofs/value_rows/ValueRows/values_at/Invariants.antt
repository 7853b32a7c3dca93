use Rattle.std.proofs.Common.{ℕ, ◌↔◌, take}
use Rattle.std.specs.Prelude.{IsBitSet}
use Rattle.pol_optable.specs.ValueWords.{IsReadAt}
use Rattle.pol_optable.proofs.value_rows.ValueRows.values_at.Given as goal

abbrev pub invariant-loop-i : goal.invariant-loop-i
invariant-loop-i l = (v : ℕ) → IsBitSet l.found v ↔ IsReadAt l.self (take l.i l.words) l.place v
