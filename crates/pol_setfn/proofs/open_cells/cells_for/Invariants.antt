use Rattle.pol_setfn.specs.OpenCells.{AreOpen}
use Rattle.pol_setfn.proofs.open_cells.cells_for.Given as goal

abbrev pub invariant-loop-value : goal.invariant-loop-value
invariant-loop-value l = AreOpen l.fn.d l.fn.idempotent l.cells
