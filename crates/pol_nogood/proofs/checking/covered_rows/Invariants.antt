use Rattle.std.proofs.Common.{◌≤◌}
use Rattle.pol_nogood.proofs.CaseWalks.{IsRowWalk}
use Rattle.pol_nogood.proofs.checking.covered_rows.Given as goal

abbrev pub invariant-loop-i : goal.invariant-loop-i
invariant-loop-i l = record {
  few : l.cases ≤ l.i;
  walk : IsRowWalk l.log l.nogood l.references l.scope l.relation.rows l.i l.cases;
}
