use Rattle.std.proofs.Common.{ℕ, ◌<◌}
use Rattle.pol_maltsev.specs.Orders.{InFront}
use Rattle.pol_maltsev.specs.Restrictions.{IsSharer}
use Rattle.pol_maltsev.proofs.table.Table.sharer.Given as goal

-- none of the rows before
abbrev pub invariant-loop-i : goal.invariant-loop-i
invariant-loop-i l = (e : ℕ) → e < l.i → ¬ IsSharer l.rows (InFront l.self.order l.k) l.j l.c l.base e
