use Rattle.std.proofs.Common.{◌≡◌, ◌%◌, take}
use Rattle.pol_modp.specs.Equations.{dot}
use Rattle.pol_modp.specs.Combinations.{labels_of}
use Rattle.pol_modp.proofs.sums.left_side.Given as goal

abbrev pub invariant-loop-i : goal.invariant-loop-i
invariant-loop-i l = l.sum ≡ dot (take l.i l.coefs) (take l.i (labels_of l.labels l.row)) % l.d
