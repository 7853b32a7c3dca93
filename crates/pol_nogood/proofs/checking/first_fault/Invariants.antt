use Rattle.pol_nogood.proofs.FaultLemmas.{IsPast}
use Rattle.pol_nogood.proofs.checking.first_fault.Given as goal

-- the steps so far have no fault
abbrev pub invariant-loop-s : goal.invariant-loop-s
invariant-loop-s l = IsPast l.lang l.inst l.log l.s
