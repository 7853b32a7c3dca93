use Rattle.std.proofs.Common.{◌≡◌, true, take}
use Rattle.std.specs.List.{list_all}
use Rattle.pol_modp.specs.CombinationFaults.{row_meets}
use Rattle.pol_modp.specs.Parts.{part_named}
use Rattle.pol_modp.proofs.checking.is_implied.Given as goal

abbrev pub invariant-loop-i : goal.invariant-loop-i
invariant-loop-i l = list_all (row_meets l.d l.labels (part_named l.part)) (take l.i l.relation.rows) ≡ true
