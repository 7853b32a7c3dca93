use Rattle.std.proofs.Common.{arith}
use Rattle.pol_identity.proofs.LabelLemmas.{few_lists}
use Rattle.pol_identity.proofs.labels.label_lists.Goals as goal

pub pow-requires : goal.pow-requires
pow-requires c =
    let few = few_lists c.from-size.result (omega (arith, c.from-size.ensures, c.size.ensures.size, c.size.ensures.within.few)) in
    omega arith
