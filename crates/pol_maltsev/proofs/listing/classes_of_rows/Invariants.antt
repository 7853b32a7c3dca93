use Rattle.pol_maltsev.specs.FromRows.{IsValueOfRows}
use Rattle.pol_maltsev.specs.Views.{AreMade, row_of}
use Rattle.pol_maltsev.proofs.listing.classes_of_rows.Given as goal

-- the values before are made
abbrev pub invariant-loop-a : goal.invariant-loop-a
invariant-loop-a l = AreMade (IsValueOfRows l.op l.rows.width l.i l.rows.rows (row_of l.made)) l.rows.domain l.rows.width l.a l.made
