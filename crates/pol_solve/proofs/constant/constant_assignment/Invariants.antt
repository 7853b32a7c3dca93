use Rattle.std.proofs.Common.{◌≡◌, replicate}
use Rattle.pol_solve.proofs.constant.constant_assignment.Given as goal

abbrev pub invariant-loop : goal.invariant-loop
invariant-loop l = l.values ≡ replicate l.counter l.value
