use Rattle.pol_maltsev.specs.Orders.{InFront}
use Rattle.pol_maltsev.specs.Tables.{Agree}
use Rattle.pol_maltsev.proofs.table.Table.agrees.Given as goal

-- they agree at the places before
abbrev pub invariant-loop-e : goal.invariant-loop-e
invariant-loop-e l = Agree (InFront l.self.order l.e) l.one l.other
