use Rattle.std.proofs.Common.{◌≡◌, true, take}
use Rattle.std.specs.List.{list_all}
use Rattle.pol_modp.specs.CombinationFaults.{part_implied}
use Rattle.pol_modp.proofs.checking.not_implied.Given as goal

abbrev pub invariant-loop-i : goal.invariant-loop-i
invariant-loop-i l = list_all (part_implied l.lang l.inst l.combination.labels) (take l.i l.combination.parts) ≡ true
