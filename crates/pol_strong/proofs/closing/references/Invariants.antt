use Rattle.pol_nogood.specs.ValidLogs.{HasReferences}
use Rattle.pol_nogood.specs.Logs.{value_cases}
use Rattle.pol_strong.proofs.closing.references.Given as goal

abbrev pub invariant-loop-a : goal.invariant-loop-a
invariant-loop-a l = HasReferences l.store.log l.front (value_cases l.v l.a) l.references
