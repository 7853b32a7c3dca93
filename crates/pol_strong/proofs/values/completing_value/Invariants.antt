use Rattle.std.proofs.Common.{take}
use Rattle.pol_nogood.specs.Nogoods.{Holds}
use Rattle.pol_strong.proofs.values.completing_value.Given as goal

abbrev pub invariant-loop-i : goal.invariant-loop-i
invariant-loop-i l = Holds l.values (take l.i l.nogood)
