use Rattle.std.proofs.Common.{arith}
use Rattle.pol_maltsev.proofs.FromRowsLemmas.{values_more}
use Rattle.pol_maltsev.proofs.listing.classes_of_rows.Goals as goal

-- one value more
pub loop-a-preserved : goal.loop-a-preserved
loop-a-preserved c =
    let r = c.args.rows.now in
    rw c.in_ok-push.ensures.ok
    (values_more c.args.op.now r.domain r.width c.args.i c.loop-a.a c.in_ok-row.root r.rows c.loop-a.made c.in_ok-row.row (omega (arith, c.loop-a-test.true, c.size-a-end.ensures.size, c.domain.ensures.domain))
    c.requires.compact.same_domain c.loop-a.invariant c.in_ok-row.ensures.made)
