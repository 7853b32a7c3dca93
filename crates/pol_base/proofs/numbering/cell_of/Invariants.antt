-- the digits so far write the cell
use Rattle.std.proofs.Common.{◌≡◌, take}
use Rattle.pol_base.specs.Tuples.{cell_of}
use Rattle.pol_base.proofs.numbering.cell_of.Given as goal

abbrev pub invariant-loop-digit : goal.invariant-loop-digit
invariant-loop-digit l = l.cell ≡ cell_of l.fn.d (take l.digit-index l.digits)
