use Rattle.std.proofs.Common.{sym, ◌∙◌}
use Rattle.pol_nogood.proofs.CaseWalks.{values-next}
use Rattle.pol_nogood.proofs.checking.covered_values.Goals as goal

pub loop-value-preserved : goal.loop-value-preserved
loop-value-preserved c = values-next c.args.log.now c.args.nogood.now c.args.references.now c.args.v c.size-size.result c.loop-value.value c.from.result c.from.ensures c.loop-value-test.true (sym c.is_covered.ensures.covered ∙ c.if-not-is_covered.false) c.loop-value.invariant
