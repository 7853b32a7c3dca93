use Rattle.pol_nogood.proofs.CaseWalks.{IsValueWalk}
use Rattle.pol_nogood.proofs.checking.covered_values.Given as goal

abbrev pub invariant-loop-value : goal.invariant-loop-value
invariant-loop-value l = IsValueWalk l.log l.nogood l.references l.v l.size l.value
