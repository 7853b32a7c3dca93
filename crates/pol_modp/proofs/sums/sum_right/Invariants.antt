use Rattle.std.proofs.Common.{◌≡◌, ◌%◌, take}
use Rattle.pol_modp.specs.Combinations.{sum_right}
use Rattle.pol_modp.proofs.sums.sum_right.Given as goal

abbrev pub invariant-loop-i : goal.invariant-loop-i
invariant-loop-i l = l.sum ≡ sum_right (take l.i l.combination.parts) % l.d
