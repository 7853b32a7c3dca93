use Rattle.std.proofs.Common.{◌≡◌, subst}
use Rattle.pol_optable.specs.SetFunctions.{SetFunctionView, IsSetFunction}
use Rattle.pol_checker.proofs.TableLemmas.{set_table_of}
use Rattle.pol_checker.proofs.tables.check_set_function.Goals as goal

-- no relation is broken
pub returns-in-None : goal.returns-in-None
returns-in-None c =
    let function : SetFunctionView = record { domain = c.args.lang.now.domain; cells = c.args.cells.now } in
    let same : c.in-Some.table ≡ function = rw (c.in-Some.is, c.domain.ensures.domain) at c.in_ok-table.ensures.made in
    let is : IsSetFunction c.in-Some.table = subst IsSetFunction c.table.view_is c.table.invariant.1 in
    record { verdict = set_table_of c.args.lang.now c.args.cells.now c.in-Some.table same is c.in-None.ensures.none }
