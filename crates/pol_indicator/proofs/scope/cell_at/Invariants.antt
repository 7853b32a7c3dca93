use Rattle.std.proofs.Common.{◌≡◌, take}
use Rattle.pol_base.specs.Tuples.{cell_of}
use Rattle.pol_optable.specs.Operations.{column}
use Rattle.pol_optable.specs.Breaks.{rows_at}
use Rattle.pol_indicator.proofs.scope.cell_at.Given as goal

-- the values so far write the cell
abbrev pub invariant-loop-number : goal.invariant-loop-number
invariant-loop-number g l = l.cell ≡ cell_of l.fn.r.domain (take l.number (column (rows_at l.fn.r l.fn.numbers) l.fn.place))
