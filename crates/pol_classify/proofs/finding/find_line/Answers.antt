use Rattle.std.proofs.Common.{rules}
use Rattle.pol_classify.proofs.SizeLemmas.{few_of_three}
use Rattle.pol_classify.proofs.finding.find_line.Goals as goal

pub least_op-requires : goal.least_op-requires
least_op-requires c =
    let few = few_of_three c.args.lang.now c.domain-domain.ensures.language in
    search rules

pub least_op-requires-in-Nu4 : goal.least_op-requires-in-Nu4
least_op-requires-in-Nu4 c =
    let few = few_of_three c.args.lang.now c.domain-domain.ensures.language in
    search rules
