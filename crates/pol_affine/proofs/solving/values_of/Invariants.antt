use Rattle.std.proofs.Common.{◌≡◌, take, map}
use Rattle.pol_identity.specs.Labels.{labelled}
use Rattle.pol_affine.proofs.solving.values_of.Given as goal

abbrev pub invariant-loop-label : goal.invariant-loop-label
invariant-loop-label l = l.values ≡ map (labelled l.labels) (take l.label-index l.found)
