use Rattle.std.proofs.Common.{rules, arith}
use Rattle.std.proofs.lemmas.Iterator.{YieldsList-from_range, cases_from_all}
use Rattle.pol_relation.specs.Instances.{Meets, no_constraint}
use Rattle.pol_relation.proofs.RangeLemmas.{HoldsOfPlace, FailsOfPlace, All-from_places}
use Rattle.pol_relation.proofs.instance.Instance.is_solution.Goals as goal
use borrow.Author.Tests.{tests}

pub returns : goal.returns
returns c =
    let inst = c.args.self.now in
    let n = c.constraints.result in
    let Yes = HoldsOfPlace (λ at. Meets c.args.lang.now at c.args.assignment.now) inst.constraints no_constraint in
    let No = FailsOfPlace (λ at. Meets c.args.lang.now at c.args.assignment.now) inst.constraints no_constraint in
    let cases = cases_from_all _ _ c.all.result Yes No c.all.ensures.ran (YieldsList-from_range 0 n n (cc) (omega arith)) (λ x q k. search (rules, tests)) (λ x q k. search (rules, tests)) in
    let all = All-from_places (λ at. Meets c.args.lang.now at c.args.assignment.now) inst.constraints no_constraint n c.all.result c.constraints.ensures.constraints cases in
    record { solution = (λ held. record { assigns = c.requires.assigns; meets = all.0 held }, λ solution. all.1 solution.meets) }
