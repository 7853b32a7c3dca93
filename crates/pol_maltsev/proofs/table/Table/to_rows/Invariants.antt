use Rattle.pol_maltsev.specs.Listings.{AreRowsBefore}
use Rattle.pol_maltsev.proofs.table.Table.to_rows.Given as goal

-- those of the places before are listed
abbrev pub invariant-loop-p : goal.invariant-loop-p
invariant-loop-p l = AreRowsBefore l.self l.p 0 l.rows
