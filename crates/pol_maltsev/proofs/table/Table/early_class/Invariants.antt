use Rattle.std.proofs.Common.{ℕ, ◌<◌}
use Rattle.std.specs.Prelude.{slice_index}
use Rattle.pol_maltsev.specs.Orders.{InFront}
use Rattle.pol_maltsev.specs.Restrictions.{SharesBase, first_row}
use Rattle.pol_maltsev.proofs.table.Table.early_class.Given as goal

-- none of the values before has a base that is shared
abbrev pub invariant-loop-b : goal.invariant-loop-b
invariant-loop-b l = (e : ℕ) → e < l.b → ¬ SharesBase l.rows (InFront l.self.order l.k) (slice_index l.self.order l.k) (first_row l.rows (slice_index l.self.order l.k)) l.c e
