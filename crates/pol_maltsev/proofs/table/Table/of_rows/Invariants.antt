use Rattle.pol_maltsev.proofs.FromRowsLemmas.{ArePlacesOfRows}
use Rattle.pol_maltsev.proofs.table.Table.of_rows.Given as goal

-- the classes of the places before
abbrev pub invariant-loop-i : goal.invariant-loop-i
invariant-loop-i l = ArePlacesOfRows l.op l.rows.domain l.rows.width l.rows.rows l.i l.places.items
