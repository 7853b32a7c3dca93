use Rattle.std.specs.Prelude.{slice_index}
use Rattle.pol_maltsev.specs.Orders.{InFront}
use Rattle.pol_maltsev.specs.Restrictions.{IsEarlyClass}
use Rattle.pol_maltsev.specs.Views.{AreMade}
use Rattle.pol_maltsev.proofs.table.Table.early_classes.Given as goal

-- the values before are made
abbrev pub invariant-loop-c : goal.invariant-loop-c
invariant-loop-c l = AreMade (IsEarlyClass l.self.domain l.rows (InFront l.self.order l.k) (slice_index l.self.order l.k)) l.self.domain l.self.width l.c l.made
