use Rattle.std.proofs.Common.{option_map, subst, arith}
use Rattle.pol_base.specs.declared.class_name.ClassName.TheVariants.{Majority}
use Rattle.pol_optable.specs.Identities.{IsNearUnanimity}
use Rattle.pol_optable.specs.ClassLines.Line.{Sought}
use Rattle.pol_optable.specs.Choices.{HoldsNoOther}
use Rattle.pol_solve.proofs.FoundTables.{served}
use Rattle.pol_solve.proofs.answering.by_majority.Goals as goal

pub by_near_unanimity-requires : goal.by_near_unanimity-requires
by_near_unanimity-requires c =
    let table = subst (λ found. HoldsNoOther Majority c.args.lang.now (Sought (option_map (λ f. f.cells) found))) c.in-Some.is (c.requires.tables Majority) in
    let serving = served IsNearUnanimity 2 c.args.lang.now c.in-Some.op c.domain-domain.ensures.language c.cells-cells.ensures.table table in
    (omega arith, (omega arith, (omega arith, (serving.satisfies, (serving.preserves, (serving.same_domain, (c.requires.fits, c.requires.few_variables)))))))
