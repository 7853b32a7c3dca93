use Rattle.std.proofs.Common.{◌≡◌, true, ◌++◌, take}
use Rattle.pol_nogood.specs.LogFaults.{contained_in}
use Rattle.pol_nogood.specs.Logs.{reading}
use Rattle.pol_nogood.proofs.cases.is_contained.Given as goal

abbrev pub invariant-loop-i : goal.invariant-loop-i
invariant-loop-i l = contained_in (take l.i l.some) (l.nogood ++ reading l.scope l.row) ≡ true
