use Rattle.std.proofs.Common.{option_map, subst}
use Rattle.pol_base.specs.declared.class_name.ClassName.TheVariants.{SetFunction}
use Rattle.pol_optable.specs.ClassLines.Line.{Sought}
use Rattle.pol_optable.specs.Choices.{HoldsNoOther}
use Rattle.pol_solve.proofs.FoundTables.{set_served}
use Rattle.pol_solve.proofs.answering.by_set_function.Goals as goal

pub solve_width_one-requires-clause-domain : goal.solve_width_one-requires-clause-domain
solve_width_one-requires-clause-domain c =
    let table = subst (λ found. HoldsNoOther SetFunction c.args.lang.now (Sought (option_map (λ g. g.cells) found))) c.in-Some.is (c.requires.tables SetFunction) in
    (set_served c.args.lang.now c.in-Some.g c.cells-cells.ensures.set_function table).same_domain

pub solve_width_one-requires-clause-preserves : goal.solve_width_one-requires-clause-preserves
solve_width_one-requires-clause-preserves c =
    let table = subst (λ found. HoldsNoOther SetFunction c.args.lang.now (Sought (option_map (λ g. g.cells) found))) c.in-Some.is (c.requires.tables SetFunction) in
    (set_served c.args.lang.now c.in-Some.g c.cells-cells.ensures.set_function table).preserves

pub returns-in_ok-solve_width_one-in-Some : goal.returns-in_ok-solve_width_one-in-Some
returns-in_ok-solve_width_one-in-Some c =
    let given = c.in_ok-solve_width_one-in-Some.ensures in
    record { answers = λ holds. c.by_log.ensures.answers 1 c.args.lang.now c.args.inst.now given.yes given.no_only_without_solution given.certificate }
