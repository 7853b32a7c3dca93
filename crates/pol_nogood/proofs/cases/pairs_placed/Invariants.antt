use Rattle.std.proofs.Common.{◌≡◌, true, take}
use Rattle.pol_nogood.specs.LogFaults.{pairs_placed}
use Rattle.pol_nogood.proofs.cases.pairs_placed.Given as goal

abbrev pub invariant-loop-i : goal.invariant-loop-i
invariant-loop-i l = pairs_placed l.n l.d (take l.i l.nogood) ≡ true
