use Rattle.std.proofs.Common.{◌≡◌, true, take}
use Rattle.std.specs.List.{list_all}
use Rattle.pol_nogood.specs.FirstPlaces.{agrees_first}
use Rattle.pol_nogood.proofs.cases.is_case_at.Given as goal

abbrev pub invariant-loop-i : goal.invariant-loop-i
invariant-loop-i l = list_all (agrees_first l.scope l.row) (take l.i l.nogood) ≡ true
