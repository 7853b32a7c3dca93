use Rattle.std.proofs.Common.{take}
use Rattle.pol_optable.specs.ValueWords.{IsReadAt}
use Rattle.pol_optable.proofs.value_rows.ValueRows.reads.Given as goal

abbrev pub invariant-loop-i : goal.invariant-loop-i
invariant-loop-i l = IsReadAt l.self (take l.i l.words) l.place l.value → ⊥
