use Rattle.pol_maltsev.specs.Swaps.{IsLateAt}
use Rattle.pol_maltsev.specs.Views.{sides_at}
use Rattle.pol_maltsev.proofs.MadeLemmas.{made_more}
use Rattle.pol_maltsev.proofs.table.Table.late.Goals as goal

-- one value more
pub loop-a-preserved : goal.loop-a-preserved
loop-a-preserved c =
    let v = c.args.self.now in
    rw c.in_ok-push.ensures.ok
    (made_more (IsLateAt c.args.op.now v.width (sides_at v c.args.k)) v.domain v.width c.loop-a.a c.loop-a.made c.in_ok-row.row c.in_ok-row.root c.loop-a.invariant c.in_ok-row.ensures.made)
