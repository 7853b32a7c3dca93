use Rattle.pol_maltsev.specs.Swaps.{IsEarlyAt}
use Rattle.pol_maltsev.specs.Views.{sides_at}
use Rattle.pol_maltsev.proofs.MadeLemmas.{made_more}
use Rattle.pol_maltsev.proofs.table.Table.early.Goals as goal

-- one value more
pub loop-c-preserved : goal.loop-c-preserved
loop-c-preserved c =
    let v = c.args.self.now in
    rw c.in_ok-push.ensures.ok
    (made_more (IsEarlyAt c.args.op.now v.width (sides_at v c.args.k)) v.domain v.width c.loop-c.c c.loop-c.made c.in_ok-row.row c.in_ok-row.root c.loop-c.invariant c.in_ok-row.ensures.made)
