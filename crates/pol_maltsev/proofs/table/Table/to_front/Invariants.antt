use Rattle.pol_maltsev.proofs.ReorderLemmas.{AreFirstSoFar}
use Rattle.pol_maltsev.proofs.table.Table.to_front.Given as goal

-- the places before stand first
abbrev pub invariant-loop-k : goal.invariant-loop-k
invariant-loop-k l = AreFirstSoFar l.op l.places l.k l.initial.self l.self
