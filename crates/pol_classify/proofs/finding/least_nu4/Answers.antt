use Rattle.std.proofs.Common.{rules, arith, sym}
use Rattle.pol_classify.proofs.SizeLemmas.{few_of_four}
use Rattle.pol_classify.proofs.CompositionLemmas.{no_near_unanimity}
use Rattle.pol_classify.proofs.finding.least_nu4.Goals as goal

pub least_op-requires : goal.least_op-requires
least_op-requires c =
    let few = few_of_four c.args.lang.now c.domain-domain.ensures.language in
    search rules

-- where there is a Mal'tsev operation and no majority operation
pub returns-then-is_some : goal.returns-then-is_some
returns-then-is_some c = record {
  line = (
    λ beyond. omega (arith, beyond, c.if-weight-gt-MOST_WEIGHT.false, c.weight.ensures.sum),
    no_near_unanimity c.args.lang.now c.args.majority.now c.args.maltsev.now c.domain-domain.ensures.language
        c.requires.majority c.requires.maltsev c.if-is_none.ensures (sym c.if-is_some.ensures),
  );
}
