use Rattle.pol_maltsev.proofs.FullLemmas.{AreFull}
use Rattle.pol_maltsev.proofs.table.Table.full.Given as goal

-- the classes of the places before
abbrev pub invariant-loop-p : goal.invariant-loop-p
invariant-loop-p l = AreFull l.domain l.n l.p l.places.items
