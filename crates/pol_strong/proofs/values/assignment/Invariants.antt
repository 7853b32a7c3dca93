use Rattle.pol_strong.proofs.NextValues.{IsBegun}
use Rattle.pol_strong.proofs.values.assignment.Given as goal

abbrev pub invariant-loop : goal.invariant-loop
invariant-loop l = IsBegun l.lang.domain l.log l.counter l.values
