use Rattle.std.proofs.Common.{◌≡◌, take}
use Rattle.pol_base.specs.Masks.{single_masks}
use Rattle.pol_csp.proofs.given.masks_of_one.Given as goal

abbrev pub invariant-loop-cell : goal.invariant-loop-cell
invariant-loop-cell l = l.masks.items ≡ single_masks (take l.cell l.values)
