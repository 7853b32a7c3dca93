use Rattle.pol_optable.specs.SetFunctions.{value_of_set}
use Rattle.std.proofs.Common.{◌≡◌, take}
use Rattle.std.specs.Prelude.{map}
use Rattle.pol_arc.proofs.width_one.values_of.Given as goal

abbrev pub invariant-loop-mask : goal.invariant-loop-mask
invariant-loop-mask l = l.values ≡ map (value_of_set l.g) (take l.mask-index l.masks)
