use Rattle.std.proofs.Common.{subst, ap, refl, ◌∙◌, Some, None}
use Rattle.pol_base.specs.declared.class_name.ClassName.TheVariants.{Constant, Semilattice, SetFunction, Majority, Nu4, Affine, Maltsev}
use Rattle.pol_optable.specs.Choices.{FirstFound}
use Rattle.pol_solve.specs.declared.answering.InstanceAnswer.TheVariants.{Undecided}
use Rattle.pol_solve.proofs.FirstAnswers.{by_first, by_first_ok}
use Rattle.pol_solve.proofs.answering.answer.Goals as goal

pub returns-in-Some-Constant : goal.returns-in-Some-Constant
returns-in-Some-Constant c =
    let first = subst (FirstFound c.args.classes.now) (c.in-Some-Constant.is ∙ ap (λ class. Some class) c.in-Some-Constant.field-0-is) c.first.ensures.first in
    record { answers = by_first_ok c.args.lang.now c.args.inst.now c.args.classes.now c.by_constant.result (Some Constant) first (c.by_constant.ensures.answers first.holds) }

pub returns-in-Some-Semilattice : goal.returns-in-Some-Semilattice
returns-in-Some-Semilattice c =
    let first = subst (FirstFound c.args.classes.now) (c.in-Some-Semilattice.is ∙ ap (λ class. Some class) c.in-Some-Semilattice.field-0-is) c.first.ensures.first in
    record { answers = by_first_ok c.args.lang.now c.args.inst.now c.args.classes.now c.by_semilattice.result (Some Semilattice) first (c.by_semilattice.ensures.answers first.holds) }

pub returns-in-Some-SetFunction : goal.returns-in-Some-SetFunction
returns-in-Some-SetFunction c =
    let first = subst (FirstFound c.args.classes.now) (c.in-Some-SetFunction.is ∙ ap (λ class. Some class) c.in-Some-SetFunction.field-0-is) c.first.ensures.first in
    record { answers = by_first_ok c.args.lang.now c.args.inst.now c.args.classes.now c.by_set_function.result (Some SetFunction) first (c.by_set_function.ensures.answers first.holds) }

pub returns-in-Some-Majority : goal.returns-in-Some-Majority
returns-in-Some-Majority c =
    let first = subst (FirstFound c.args.classes.now) (c.in-Some-Majority.is ∙ ap (λ class. Some class) c.in-Some-Majority.field-0-is) c.first.ensures.first in
    record { answers = by_first_ok c.args.lang.now c.args.inst.now c.args.classes.now c.by_majority.result (Some Majority) first (c.by_majority.ensures.answers first.holds) }

pub returns-in-Some-Nu4 : goal.returns-in-Some-Nu4
returns-in-Some-Nu4 c =
    let first = subst (FirstFound c.args.classes.now) (c.in-Some-Nu4.is ∙ ap (λ class. Some class) c.in-Some-Nu4.field-0-is) c.first.ensures.first in
    record { answers = by_first_ok c.args.lang.now c.args.inst.now c.args.classes.now c.by_nu4.result (Some Nu4) first (c.by_nu4.ensures.answers first.holds) }

pub returns-in-Some-Affine : goal.returns-in-Some-Affine
returns-in-Some-Affine c =
    let first = subst (FirstFound c.args.classes.now) (c.in-Some-Affine.is ∙ ap (λ class. Some class) c.in-Some-Affine.field-0-is) c.first.ensures.first in
    record { answers = by_first_ok c.args.lang.now c.args.inst.now c.args.classes.now c.by_affine.result (Some Affine) first (c.by_affine.ensures.answers first.holds) }

pub returns-in-Some-Maltsev : goal.returns-in-Some-Maltsev
returns-in-Some-Maltsev c =
    let first = subst (FirstFound c.args.classes.now) (c.in-Some-Maltsev.is ∙ ap (λ class. Some class) c.in-Some-Maltsev.field-0-is) c.first.ensures.first in
    record { answers = by_first_ok c.args.lang.now c.args.inst.now c.args.classes.now c.by_maltsev.result (Some Maltsev) first (c.by_maltsev.ensures.answers first.holds) }

pub returns-in-None : goal.returns-in-None
returns-in-None c =
    record { answers = by_first c.args.lang.now c.args.inst.now c.args.classes.now None (subst (FirstFound c.args.classes.now) c.in-None.is c.first.ensures.first) Undecided refl }
