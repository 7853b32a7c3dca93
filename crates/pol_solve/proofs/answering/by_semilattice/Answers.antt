use Rattle.std.proofs.Common.{option_map, subst}
use Rattle.pol_base.specs.declared.class_name.ClassName.TheVariants.{Semilattice}
use Rattle.pol_optable.specs.Identities.{IsSemilattice}
use Rattle.pol_optable.specs.ClassLines.Line.{Sought}
use Rattle.pol_optable.specs.Choices.{HoldsNoOther}
use Rattle.pol_solve.proofs.FoundTables.{served, fold_served}
use Rattle.pol_solve.proofs.answering.by_semilattice.Goals as goal

pub fold-requires : goal.fold-requires
fold-requires c =
    let table = subst (λ found. HoldsNoOther Semilattice c.args.lang.now (Sought (option_map (λ f. f.cells) found))) c.in-Some.is (c.requires.tables Semilattice) in
    record { semilattice = (served IsSemilattice 1 c.args.lang.now c.in-Some.op c.domain-domain.ensures.language c.cells-cells.ensures.table table).satisfies }

pub solve_width_one-requires-clause-domain : goal.solve_width_one-requires-clause-domain
solve_width_one-requires-clause-domain c =
    let table = subst (λ found. HoldsNoOther Semilattice c.args.lang.now (Sought (option_map (λ f. f.cells) found))) c.in-Some.is (c.requires.tables Semilattice) in
    let is = c.domain-domain.ensures.language in
    let op = c.cells-cells.ensures.table in
    (fold_served c.args.lang.now c.in-Some.op c.in_ok-g-in-Some.g is op.arity_is (served IsSemilattice 1 c.args.lang.now c.in-Some.op is op table) c.in_ok-g-in-Some.ensures.fold).same_domain

pub solve_width_one-requires-clause-preserves : goal.solve_width_one-requires-clause-preserves
solve_width_one-requires-clause-preserves c =
    let table = subst (λ found. HoldsNoOther Semilattice c.args.lang.now (Sought (option_map (λ f. f.cells) found))) c.in-Some.is (c.requires.tables Semilattice) in
    let is = c.domain-domain.ensures.language in
    let op = c.cells-cells.ensures.table in
    (fold_served c.args.lang.now c.in-Some.op c.in_ok-g-in-Some.g is op.arity_is (served IsSemilattice 1 c.args.lang.now c.in-Some.op is op table) c.in_ok-g-in-Some.ensures.fold).preserves

pub returns-in_ok-solve_width_one-in-Some : goal.returns-in_ok-solve_width_one-in-Some
returns-in_ok-solve_width_one-in-Some c =
    let given = c.in_ok-solve_width_one-in-Some.ensures in
    record { answers = λ holds. c.by_log.ensures.answers 1 c.args.lang.now c.args.inst.now given.yes given.no_only_without_solution given.certificate }
