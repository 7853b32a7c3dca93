use Rattle.pol_csp.proofs.SharedMasks.{IsSharing}
use Rattle.pol_csp.proofs.variables.shared_masks.Given as goal

abbrev pub invariant-loop-cell : goal.invariant-loop-cell
invariant-loop-cell l = IsSharing l.variables.firsts.items l.variables.of_cells.items l.masks l.cell l.shared.items
