use Rattle.std.proofs.Common.{◌≡◌, true, take}
use Rattle.std.specs.List.{list_all}
use Rattle.pol_modp.specs.CombinationFaults.{part_placed}
use Rattle.pol_modp.proofs.checking.misplaced.Given as goal

abbrev pub invariant-loop-i : goal.invariant-loop-i
invariant-loop-i l = list_all (part_placed l.lang l.inst) (take l.i l.combination.parts) ≡ true
