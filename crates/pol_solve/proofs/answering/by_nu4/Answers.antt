use Rattle.std.proofs.Common.{subst, arith}
use Rattle.pol_base.specs.declared.class_name.ClassName.TheVariants.{Nu4}
use Rattle.pol_optable.specs.Identities.{IsNearUnanimity}
use Rattle.pol_optable.specs.Choices.{HoldsNoOther, nu4_line}
use Rattle.pol_solve.proofs.FoundTables.{served}
use Rattle.pol_solve.proofs.answering.by_nu4.Goals as goal

pub by_near_unanimity-requires : goal.by_near_unanimity-requires
by_near_unanimity-requires c =
    let table = subst (λ found. HoldsNoOther Nu4 c.args.lang.now (nu4_line found)) c.in-Found.is (c.requires.tables Nu4) in
    let serving = served IsNearUnanimity 3 c.args.lang.now c.in-Found.op c.domain-domain.ensures.language c.cells-cells.ensures.table table in
    (omega arith, (omega arith, (omega arith, (serving.satisfies, (serving.preserves, (serving.same_domain, (c.requires.fits, c.requires.few_variables)))))))
