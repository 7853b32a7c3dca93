use Rattle.std.proofs.Common.{◌<◌, length, sym, ◌∙◌, arith}
use Rattle.pol_nogood.proofs.CaseWalks.{rows-next, rows-skip}
use Rattle.pol_nogood.proofs.checking.covered_rows.Goals as goal
use Rattle.pol_nogood.proofs.checking.covered_rows.Goals.{then-is_case_at+else-not-is_covered, else-is_case_at}

pub loop-i-preserved : goal.loop-i-preserved
loop-i-preserved c =
    let inside : c.loop-i.i < length c.relation-relation.result.now.rows = omega (arith, c.loop-i-test.true, c.len-i-end.ensures.rows) in
    elim c.if-is_case_at.branch [
      | then-is_case_at+else-not-is_covered w ↦ rw w.cases-is record {
        few = omega arith;
        walk = rows-next c.args.log.now c.args.nogood.now c.args.references.now c.scope-scope.result.now c.relation-relation.result.now.rows c.loop-i.i c.loop-i.cases c.row-row.result.now
            c.row-row.ensures.row inside (sym c.is_case_at.ensures.case ∙ w.if-is_case_at.true) (sym w.is_covered.ensures.covered ∙ w.if-not-is_covered.false) c.loop-i.invariant.walk;
      }
      | else-is_case_at w ↦ rw w.cases-is record {
        few = omega arith;
        walk = rows-skip c.args.log.now c.args.nogood.now c.args.references.now c.scope-scope.result.now c.relation-relation.result.now.rows c.loop-i.i c.loop-i.cases c.row-row.result.now
            c.row-row.ensures.row inside (sym c.is_case_at.ensures.case ∙ w.if-is_case_at.false) c.loop-i.invariant.walk;
      }
    ]
