use Rattle.std.proofs.Common.{◌≡◌, ◌^◌, arith}
use Rattle.pol_relation.proofs.SumLemmas.{few_vectors}
use Rattle.pol_relation.proofs.language.Language.set_vectors.Goals as goal

pub pow-requires : goal.pow-requires
pow-requires c =
    let few = few_vectors c.args.self.now.domain c.relation.result.now.arity c.domain.ensures.language.domain_is.few c.relation.ensures.over.is_relation.few_places in
    let sets : c.pow-sets.result ≡ 2 ^ c.args.self.now.domain = cc (c.pow-sets.ensures, c.from.ensures, c.size.ensures.size, c.domain.ensures.domain) in
    rw (sets, c.arity.ensures.arity) (omega (arith, few))

pub returns-clause-few : goal.returns-clause-few
returns-clause-few c =
    let few = few_vectors c.args.self.now.domain c.relation.result.now.arity c.domain.ensures.language.domain_is.few c.relation.ensures.over.is_relation.few_places in
    let sets : c.pow-sets.result ≡ 2 ^ c.args.self.now.domain = cc (c.pow-sets.ensures, c.from.ensures, c.size.ensures.size, c.domain.ensures.domain) in
    rw (c.pow.ensures, sets, c.arity.ensures.arity) few
