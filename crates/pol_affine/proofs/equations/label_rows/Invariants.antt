use Rattle.std.proofs.Common.{◌≡◌, take, map}
use Rattle.pol_modp.specs.Combinations.{labels_of}
use Rattle.pol_affine.proofs.equations.label_rows.Given as goal

abbrev pub invariant-loop-i : goal.invariant-loop-i
invariant-loop-i l = l.rows.items ≡ map (labels_of l.labels) (take l.i l.r.rows)
