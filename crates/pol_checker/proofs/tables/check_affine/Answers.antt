use Rattle.std.proofs.Common.{◌≡◌, arith}
use Rattle.pol_optable.specs.Operations.{operation_of}
use Rattle.pol_optable.specs.Tables.{IsOpTable}
use Rattle.pol_optable.specs.Identities.{IsAffine}
use Rattle.pol_checker.proofs.TableLemmas.{small_table, table_of}
use Rattle.pol_checker.proofs.tables.check_affine.Goals as goal

-- the cells are no table
pub returns-in_default : goal.returns-in_default
returns-in_default c =
    let none : ¬ IsOpTable 3 (operation_of c.args.lang.now.domain 3 c.args.cells.now) = rw (c.in_default.is, c.domain.ensures.domain) at c.in_ok-table.ensures.none in
    record { verdict = λ is. none (small_table 3 c.args.lang.now.domain c.args.cells.now (omega arith) c.domain.ensures.language.domain_is is) }

-- no relation is broken
pub returns-in-None : goal.returns-in-None
returns-in-None c =
    let same : c.in-Some.table ≡ operation_of c.args.lang.now.domain 3 c.args.cells.now = rw (c.in-Some.is, c.domain.ensures.domain) at c.in_ok-table.ensures.made in
    let table : IsOpTable 3 c.in-Some.table = rw c.in-Some.is at c.in_ok-table.ensures.table in
    record { verdict = table_of IsAffine 3 c.args.lang.now c.args.cells.now c.in-Some.table same table.is_operation (c.is_affine.ensures.affine.0 c.if-not-is_affine.false) c.in-None.ensures.none }
