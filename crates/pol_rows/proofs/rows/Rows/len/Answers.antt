use Rattle.std.proofs.Common.{sym}
use Rattle.pol_rows.proofs.FlatLemmas.{rows_of_flat, length-tuples_in}
use Rattle.pol_rows.proofs.rows.Rows.len.Goals as goal

pub returns-clause-rows : goal.returns-clause-rows
returns-clause-rows c = rw (← c.self.view_is) (sym (length-tuples_in _ _ _))

pub returns-clause-few : goal.returns-clause-few
returns-clause-few c = rw (← c.self.view_is) (rows_of_flat _ _ _ _ c.self.invariant.flat)
