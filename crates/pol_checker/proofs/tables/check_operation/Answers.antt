use Rattle.std.proofs.Common.{◌≡◌}
use Rattle.pol_optable.specs.Operations.{operation_of}
use Rattle.pol_optable.specs.Tables.{IsOpTable}
use Rattle.pol_checker.proofs.TableLemmas.{small_table, table_of}
use Rattle.pol_checker.proofs.tables.check_operation.Goals as goal

-- the cells are no table
pub returns-in_default : goal.returns-in_default
returns-in_default g c =
    let none : ¬ IsOpTable g.row.K (operation_of c.args.lang.now.domain g.row.K c.args.cells.now) = rw (c.in_default.is, c.domain.ensures.domain) at c.in_ok-table.ensures.none in
    record { verdict = λ is. none (small_table g.row.K c.args.lang.now.domain c.args.cells.now c.requires.few_arguments c.domain.ensures.language.domain_is is) }

-- no relation is broken
pub returns-in-None : goal.returns-in-None
returns-in-None g c =
    let same : c.in-Some.table ≡ operation_of c.args.lang.now.domain g.row.K c.args.cells.now = rw (c.in-Some.is, c.domain.ensures.domain) at c.in_ok-table.ensures.made in
    let table : IsOpTable g.row.K c.in-Some.table = rw c.in-Some.is at c.in_ok-table.ensures.table in
    record { verdict = table_of (g.I.Identity.satisfies c.args.identity.now) g.row.K c.args.lang.now c.args.cells.now c.in-Some.table same table.is_operation (c.holds.ensures.satisfies.0 c.if-not-holds.false) c.in-None.ensures.none }
