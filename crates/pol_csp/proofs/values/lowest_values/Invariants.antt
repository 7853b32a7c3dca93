use Rattle.std.proofs.Common.{take}
use Rattle.pol_base.specs.Masks.{IsWithin}
use Rattle.pol_csp.proofs.values.lowest_values.Given as goal

abbrev pub invariant-loop-mask : goal.invariant-loop-mask
invariant-loop-mask l = IsWithin (take l.mask-index l.masks) l.values
