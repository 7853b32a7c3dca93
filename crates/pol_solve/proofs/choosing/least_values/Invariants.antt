use Rattle.std.proofs.Common.{◌≡◌, length}
use Rattle.pol_solve.proofs.choosing.least_values.Given as goal

abbrev pub invariant-loop-x : goal.invariant-loop-x
invariant-loop-x l = length l.values ≡ l.x
