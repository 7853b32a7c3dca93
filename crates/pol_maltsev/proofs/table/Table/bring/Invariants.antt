use Rattle.std.proofs.Common.{◌-◌}
use Rattle.pol_maltsev.proofs.ReorderLemmas.{IsOnItsWay}
use Rattle.pol_maltsev.proofs.table.Table.bring.Given as goal

-- the place stands at position k
abbrev pub invariant-loop-k : goal.invariant-loop-k
invariant-loop-k l = IsOnItsWay l.op l.to l.k l.p l.initial.self l.self

abbrev pub decreases-loop-k : goal.decreases-loop-k
decreases-loop-k l = l.k - l.to
