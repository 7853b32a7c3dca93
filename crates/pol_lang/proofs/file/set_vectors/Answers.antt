use Rattle.std.proofs.Common.{arith}
use Rattle.pol_relation.proofs.SumLemmas.{few_vectors}
use Rattle.pol_lang.proofs.file.set_vectors.Goals as goal

pub pow-requires : goal.pow-requires
pow-requires c =
    let few = few_vectors c.args.d c.args.places c.size.ensures.within.few c.requires.few_places in
    rw (c.pow-sets.ensures, c.from.ensures, c.size.ensures.size) (omega (arith, few))

pub returns-clause-few : goal.returns-clause-few
returns-clause-few c = rw (c.pow.ensures, c.pow-sets.ensures, c.from.ensures, c.size.ensures.size) (few_vectors c.args.d c.args.places c.size.ensures.within.few c.requires.few_places)
