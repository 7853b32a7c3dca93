use Rattle.pol_nogood.specs.Logs.{value_cases}
use Rattle.pol_nogood.specs.ValidLogs.{HasReferences}
use Rattle.std.proofs.Common.{[]}
use Rattle.pol_arc.proofs.consistency.value_references.Given as goal

abbrev pub invariant-loop-a : goal.invariant-loop-a
invariant-loop-a l = HasReferences l.log [] (value_cases l.v l.a) l.references
