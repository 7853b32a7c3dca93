use Rattle.std.proofs.Common.{◌≡◌, true, take}
use Rattle.pol_nogood.specs.LogFaults.{ascending_pairs}
use Rattle.pol_nogood.proofs.cases.is_ascending.Given as goal

abbrev pub invariant-loop-i : goal.invariant-loop-i
invariant-loop-i l = ascending_pairs (take l.i l.nogood) ≡ true
