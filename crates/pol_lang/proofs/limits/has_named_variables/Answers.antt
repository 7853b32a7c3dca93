use Rattle.std.proofs.Common.{◌≡◌, ℕ, List, true, rules, arith, []}
use Rattle.std.proofs.lemmas.Iterator.{YieldsList-from_range, cases_from_all}
use Rattle.pol_text.specs.Lines.{is_name}
use Rattle.pol_relation.proofs.RangeLemmas.{HoldsOfPlace, FailsOfPlace, All-from_places}
use Rattle.pol_lang.proofs.limits.has_named_variables.Goals as goal
use borrow.Author.Tests.{tests}

pub returns : goal.returns
returns c =
    let variables = c.args.inst.now.variables in
    let n = c.variables.result in
    let named : List ℕ → Type 0 = λ x. is_name x ≡ true in
    let Yes = HoldsOfPlace named variables [] in
    let No = FailsOfPlace named variables [] in
    let cases = cases_from_all _ _ c.all.result Yes No c.all.ensures.ran (YieldsList-from_range 0 n n (cc) (omega arith)) (λ x q k. search (rules, tests)) (λ x q k. search (rules, tests)) in
    record { named = All-from_places named variables [] n c.all.result c.variables.ensures.variables cases }
