use Rattle.pol_rows.proofs.FlatLemmas.{rows_of_flat}
use Rattle.pol_rows.proofs.rows.Rows.domain.Goals as goal

pub returns-clause-rows : goal.returns-clause-rows
returns-clause-rows c = rw (← c.self.view_is) (rows_of_flat _ _ _ _ c.self.invariant.flat)
