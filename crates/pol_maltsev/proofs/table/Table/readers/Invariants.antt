use Rattle.pol_maltsev.specs.Views.{InTable}
use Rattle.pol_maltsev.proofs.ReadingLemmas.{AreReadersSoFar}
use Rattle.pol_maltsev.proofs.table.Table.readers.Given as goal

-- of the rows before
abbrev pub invariant-loop-i : goal.invariant-loop-i
invariant-loop-i l = AreReadersSoFar (InTable l.op l.self) l.scope l.r.rows l.i l.found.items
