use Rattle.std.proofs.Common.{◌≡◌, ◌%◌, take}
use Rattle.pol_modp.specs.Combinations.{sum_at}
use Rattle.pol_modp.proofs.sums.sum_at.Given as goal

abbrev pub invariant-loop-i : goal.invariant-loop-i
invariant-loop-i l = l.sum ≡ sum_at l.inst (take l.i l.combination.parts) l.v % l.d
