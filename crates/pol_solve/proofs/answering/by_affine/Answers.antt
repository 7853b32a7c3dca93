use Rattle.std.proofs.Common.{option_map, subst}
use Rattle.pol_base.specs.declared.class_name.ClassName.TheVariants.{Affine}
use Rattle.pol_optable.specs.Identities.{IsAffine}
use Rattle.pol_optable.specs.ClassLines.Line.{Sought}
use Rattle.pol_optable.specs.Choices.{HoldsNoOther}
use Rattle.pol_solve.proofs.FoundTables.{IsServing, served}
use Rattle.pol_solve.proofs.answering.by_affine.Goals as goal

pub solve_affine-requires : goal.solve_affine-requires
solve_affine-requires c =
    let table = subst (λ found. HoldsNoOther Affine c.args.lang.now (Sought (option_map (λ f. f.cells) found))) c.in-Some.is (c.requires.tables Affine) in
    let serving : IsServing IsAffine c.args.lang.now c.in-Some.op = served IsAffine 2 c.args.lang.now c.in-Some.op c.domain-domain.ensures.language c.cells-cells.ensures.table table in
    record {
      affine = serving.satisfies;
      polymorphism = serving.preserves;
      domain = serving.same_domain;
      fits = c.requires.fits;
      few_variables = c.requires.few_variables;
      few_constraints = c.requires.few_constraints;
    }

pub returns-in_ok-solve_affine-in-Some : goal.returns-in_ok-solve_affine-in-Some
returns-in_ok-solve_affine-in-Some c =
    let given = c.in_ok-solve_affine-in-Some.ensures in
    record { answers = λ holds. c.by_sum.ensures.answers c.args.lang.now c.args.inst.now given.yes given.no_only_without_solution given.certificate }
