use Rattle.std.proofs.Common.{sym, ◌∙◌}
use Rattle.pol_nogood.proofs.PlaceLemmas.{repeated, distinct_more, distinct_all}
use Rattle.pol_nogood.proofs.cases.repeats.Goals as goal

pub returns-then-contains-clause-repeated : goal.returns-then-contains-clause-repeated
returns-then-contains-clause-repeated c = repeated c.args.scope.now c.loop-place.place c.loop-place-test.true (sym c.contains.ensures.value ∙ c.if-contains.true)

pub loop-place-preserved : goal.loop-place-preserved
loop-place-preserved c = distinct_more c.args.scope.now c.loop-place.place c.loop-place-test.true (sym c.contains.ensures.value ∙ c.if-contains.false) c.loop-place.invariant

pub returns-clause-distinct : goal.returns-clause-distinct
returns-clause-distinct c = distinct_all c.args.scope.now c.loop-place.place c.loop-place-test.false c.loop-place.invariant
