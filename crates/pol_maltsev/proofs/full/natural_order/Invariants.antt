use Rattle.pol_maltsev.specs.Orders.{IsNatural}
use Rattle.pol_maltsev.proofs.full.natural_order.Given as goal

-- the places before, in ascending order
abbrev pub invariant-loop-p : goal.invariant-loop-p
invariant-loop-p l = IsNatural l.p l.order.items
