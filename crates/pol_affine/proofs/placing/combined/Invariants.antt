use Rattle.std.proofs.Common.{◌≡◌, ◌≤◌, take, length}
use Rattle.pol_affine.specs.Systems.{used_parts}
use Rattle.pol_affine.proofs.placing.combined.Given as goal

abbrev pub invariant-loop-i : goal.invariant-loop-i
invariant-loop-i l =
    (l.combination.labels ≡ l.labels)
    × (l.combination.parts ≡ used_parts (take l.i l.multipliers) (take l.i l.placed))
    × (length l.combination.parts ≤ l.i)
