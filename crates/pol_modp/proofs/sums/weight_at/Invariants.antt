use Rattle.std.proofs.Common.{◌≡◌, ◌%◌, take}
use Rattle.pol_modp.specs.Combinations.{weight_at}
use Rattle.pol_modp.proofs.sums.weight_at.Given as goal

abbrev pub invariant-loop-i : goal.invariant-loop-i
invariant-loop-i l = l.sum ≡ weight_at l.v (take l.i l.scope) (take l.i l.coefs) % l.d
