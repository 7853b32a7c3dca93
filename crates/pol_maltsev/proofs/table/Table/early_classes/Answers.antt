use Rattle.std.specs.Prelude.{slice_index}
use Rattle.pol_maltsev.specs.Orders.{InFront}
use Rattle.pol_maltsev.specs.Restrictions.{IsEarlyClass}
use Rattle.pol_maltsev.proofs.MadeLemmas.{made_more}
use Rattle.pol_maltsev.proofs.table.Table.early_classes.Goals as goal

-- one value more
pub loop-c-preserved : goal.loop-c-preserved
loop-c-preserved c =
    let v = c.args.self.now in
    rw c.in_ok-push.ensures.ok
    (made_more (IsEarlyClass v.domain c.args.rows.now (InFront v.order c.args.k) (slice_index v.order c.args.k)) v.domain v.width c.loop-c.c c.loop-c.made c.in_ok-row.row c.in_ok-row.root c.loop-c.invariant c.in_ok-row.ensures.made)
