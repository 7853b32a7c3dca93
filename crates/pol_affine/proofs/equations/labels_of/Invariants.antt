use Rattle.std.proofs.Common.{◌≡◌, take}
use Rattle.pol_modp.specs.Combinations.{labels_of}
use Rattle.pol_affine.proofs.equations.labels_of.Given as goal

abbrev pub invariant-loop-value : goal.invariant-loop-value
invariant-loop-value l = l.found ≡ labels_of l.labels (take l.value-index l.values)
