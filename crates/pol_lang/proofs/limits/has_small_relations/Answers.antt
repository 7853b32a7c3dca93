use Rattle.std.proofs.Common.{◌≤◌, length, rules, arith}
use Rattle.std.proofs.lemmas.Iterator.{YieldsList-from_range, cases_from_all}
use Rattle.pol_relation.specs.Relations.{NamedRelation, no_named}
use Rattle.pol_relation.proofs.RangeLemmas.{HoldsOfPlace, FailsOfPlace, All-from_places}
use Rattle.pol_lang.proofs.limits.has_small_relations.Goals as goal
use borrow.Author.Tests.{tests}
use Rattle.pol_lang.specs.Limits.{most_tuples}

pub returns : goal.returns
returns c =
    let relations = c.args.lang.now.relations in
    let n = c.len.result in
    let small : NamedRelation → Type 0 = λ e. length e.relation.rows ≤ most_tuples in
    let Yes = HoldsOfPlace small relations no_named in
    let No = FailsOfPlace small relations no_named in
    let cases = cases_from_all _ _ c.all.result Yes No c.all.ensures.ran (YieldsList-from_range 0 n n (cc) (omega arith)) (λ x q k. search (rules, tests)) (λ x q k. search (rules, tests)) in
    record { small = All-from_places small relations no_named n c.all.result c.len.ensures.relations cases }
