use Rattle.std.proofs.Common.{arith, ap, ◌∙◌, sym, subst}
use Rattle.pol_relation.specs.Relations.{relation_of}
use Rattle.pol_optable.specs.Breaks.{IsBroken}
use Rattle.pol_indicator.proofs.BrokenLemmas.{broken_language}
use Rattle.pol_indicator.proofs.broken.add_part.Goals as goal

pub first_broken-requires : goal.first_broken-requires
first_broken-requires g c =
    let lang = c.language.ensures.same in
    let same = c.relation-relation.ensures.relation ∙ ap (λ l. relation_of l c.args.part.relation) lang in
    let domain = ap (λ r. r.domain) (c.in-Some.ensures.same ∙ sym same) ∙ c.relation-relation.ensures.over.same_domain ∙ ap (λ l. l.domain) lang in
    (omega arith, (omega (arith, c.requires.few_arguments), c.requires.domain ∙ sym domain))

-- a list is broken
pub returns-in_ok-add_lists-in-Some-first_broken-clause-begun : goal.returns-in_ok-add_lists-in-Some-first_broken-clause-begun
returns-in_ok-add_lists-in-Some-first_broken-clause-begun g c more =
    let broken = subst (λ r. IsBroken c.args.table.now r c.in-Some-first_broken.numbers) c.in-Some.ensures.same c.in-Some-first_broken.ensures.broken in
    broken_language c.args.table.now c.args.rows.now c.args.part.relation c.in-Some-first_broken.numbers c.in-Some.ensures.known broken

pub returns-in_ok-add_lists-in-Some-first_broken-clause-broken : goal.returns-in_ok-add_lists-in-Some-first_broken-clause-broken
returns-in_ok-add_lists-in-Some-first_broken-clause-broken g c =
    let broken = subst (λ r. IsBroken c.args.table.now r c.in-Some-first_broken.numbers) c.in-Some.ensures.same c.in-Some-first_broken.ensures.broken in
    broken_language c.args.table.now c.args.rows.now c.args.part.relation c.in-Some-first_broken.numbers c.in-Some.ensures.known broken
