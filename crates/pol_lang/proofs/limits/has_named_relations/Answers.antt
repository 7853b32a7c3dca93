use Rattle.std.proofs.Common.{◌≡◌, true, rules, arith}
use Rattle.std.proofs.lemmas.Iterator.{YieldsList-from_range, cases_from_all}
use Rattle.pol_text.specs.Lines.{is_name}
use Rattle.pol_relation.specs.Relations.{NamedRelation, no_named}
use Rattle.pol_relation.proofs.RangeLemmas.{HoldsOfPlace, FailsOfPlace, All-from_places}
use Rattle.pol_lang.proofs.limits.has_named_relations.Goals as goal
use borrow.Author.Tests.{tests}

pub returns : goal.returns
returns c =
    let relations = c.args.lang.now.relations in
    let n = c.len.result in
    let named : NamedRelation → Type 0 = λ e. is_name e.name ≡ true in
    let Yes = HoldsOfPlace named relations no_named in
    let No = FailsOfPlace named relations no_named in
    let cases = cases_from_all _ _ c.all.result Yes No c.all.ensures.ran (YieldsList-from_range 0 n n (cc) (omega arith)) (λ x q k. search (rules, tests)) (λ x q k. search (rules, tests)) in
    record { named = All-from_places named relations no_named n c.all.result c.len.ensures.relations cases }
