use Rattle.std.proofs.Common.{◌<◌, length, arith}
use Rattle.pol_relation.proofs.WeightLemmas.{subset_weight_of-next}
use Rattle.pol_relation.proofs.language.Language.subset_weight.Goals as goal

pub loop-i-preserved : goal.loop-i-preserved
loop-i-preserved c =
    let inside : c.loop-i.i < length c.args.self.now.relations = omega (arith, c.loop-i-test.true, c.len-i-end.ensures.relations) in
    record {
      sum = rw (c.loop-i.invariant.sum, c.set_vectors-weight.ensures.vectors) (subset_weight_of-next c.args.self.now.domain c.args.self.now.relations c.loop-i.i inside);
      few = omega (arith, c.loop-i.invariant.few, c.set_vectors-weight.ensures.few);
    }
