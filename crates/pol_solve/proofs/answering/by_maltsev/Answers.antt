use Rattle.std.proofs.Common.{option_map, subst}
use Rattle.pol_base.specs.declared.class_name.ClassName.TheVariants.{Maltsev}
use Rattle.pol_optable.specs.Identities.{IsMaltsev}
use Rattle.pol_optable.specs.ClassLines.Line.{Sought}
use Rattle.pol_optable.specs.Choices.{HoldsNoOther}
use Rattle.pol_solve.proofs.FoundTables.{IsServing, served}
use Rattle.pol_solve.proofs.answering.by_maltsev.Goals as goal

pub solve_maltsev-requires : goal.solve_maltsev-requires
solve_maltsev-requires c =
    let table = subst (λ found. HoldsNoOther Maltsev c.args.lang.now (Sought (option_map (λ f. f.cells) found))) c.in-Some.is (c.requires.tables Maltsev) in
    let serving : IsServing IsMaltsev c.args.lang.now c.in-Some.op = served IsMaltsev 2 c.args.lang.now c.in-Some.op c.domain-domain.ensures.language c.cells-cells.ensures.table table in
    record {
      maltsev = serving.satisfies;
      polymorphism = serving.preserves;
      domain = serving.same_domain;
      fits = c.requires.fits;
      some_variables = c.requires.some_variables;
      few_variables = c.requires.few_variables;
    }

pub returns-in_ok-solve_maltsev-in-Some : goal.returns-in_ok-solve_maltsev-in-Some
returns-in_ok-solve_maltsev-in-Some c =
    let given = c.in_ok-solve_maltsev-in-Some.ensures in
    record { answers = λ holds. c.by_sizes.ensures.answers c.args.lang.now c.args.inst.now given.yes given.no_only_without_solution given.sizes }
