use Rattle.pol_nogood.specs.Logs.{row_cases, value_case}
use Rattle.pol_nogood.specs.ValidLogs.{HasReferences}
use Rattle.std.proofs.Common.{take}
use Rattle.pol_arc.proofs.supports.references.Given as goal

abbrev pub invariant-loop-i : goal.invariant-loop-i
invariant-loop-i l = HasReferences l.log (value_case l.x l.a) (row_cases l.scope (value_case l.x l.a) (take l.i l.relation.rows)) l.references
