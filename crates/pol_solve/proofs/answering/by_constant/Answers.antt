use Rattle.std.proofs.Common.{option_map, subst}
use Rattle.pol_base.specs.declared.class_name.ClassName.TheVariants.{Constant}
use Rattle.pol_optable.specs.ClassLines.Line.{Sought}
use Rattle.pol_optable.specs.Choices.{HoldsNoOther}
use Rattle.pol_solve.proofs.answering.by_constant.Goals as goal

pub solve_constant-requires-clause-table : goal.solve_constant-requires-clause-table
solve_constant-requires-clause-table c =
    subst (λ found. HoldsNoOther Constant c.args.lang.now (Sought (option_map (λ f. f.cells) found))) c.in-Some.is (c.requires.tables Constant)

pub returns-in_ok-solve_constant-in-Some : goal.returns-in_ok-solve_constant-in-Some
returns-in_ok-solve_constant-in-Some c =
    let given = c.in_ok-solve_constant-in-Some.ensures in
    record { answers = λ holds. c.by_log.ensures.answers 1 c.args.lang.now c.args.inst.now given.yes given.no_only_without_solution given.certificate }
