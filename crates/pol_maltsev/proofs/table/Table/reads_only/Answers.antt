use Rattle.std.proofs.Common.{below_more}
use Rattle.pol_maltsev.specs.Scopes.{ReadsOnlyAt}
use Rattle.pol_maltsev.proofs.table.Table.reads_only.Goals as goal

-- one place more
pub loop-p-preserved : goal.loop-p-preserved
loop-p-preserved c =
    below_more (λ q. ReadsOnlyAt c.args.self.now q c.args.scope.now c.args.r.now.rows) c.loop-p.p c.loop-p.invariant (c.reads_only_at.ensures.reads.0 c.if-not-reads_only_at.false)
