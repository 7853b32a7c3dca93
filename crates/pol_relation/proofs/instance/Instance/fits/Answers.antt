use Rattle.std.proofs.Common.{rules, arith, length}
use Rattle.std.proofs.lemmas.Iterator.{YieldsList-from_range, cases_from_all}
use Rattle.pol_relation.specs.Instances.{FitsAt, no_constraint}
use Rattle.pol_relation.proofs.RangeLemmas.{HoldsOfPlace, FailsOfPlace, All-from_places}
use Rattle.pol_relation.proofs.instance.Instance.fits.Goals as goal
use borrow.Author.Tests.{tests}

pub returns : goal.returns
returns c =
    let inst = c.args.self.now in
    let n = c.constraints.result in
    let fits = FitsAt c.args.lang.now (length inst.variables) in
    let Yes = HoldsOfPlace fits inst.constraints no_constraint in
    let No = FailsOfPlace fits inst.constraints no_constraint in
    let cases = cases_from_all _ _ c.all.result Yes No c.all.ensures.ran (YieldsList-from_range 0 n n (cc) (omega arith)) (λ x q k. search (rules, tests)) (λ x q k. search (rules, tests)) in
    record { fits = All-from_places fits inst.constraints no_constraint n c.all.result c.constraints.ensures.constraints cases }
