use Rattle.pol_maltsev.specs.Listings.{AreRowsBefore}
use Rattle.pol_maltsev.proofs.table.Table.list_place.Given as goal

-- those of the values before are listed
abbrev pub invariant-loop-a : goal.invariant-loop-a
invariant-loop-a l = AreRowsBefore l.self l.p l.a l.rows
