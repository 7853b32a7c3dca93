use Rattle.pol_outside.proofs.FaultCounts.{counted_fault, kept_count}
use Rattle.pol_outside.proofs.memory.MemorySourceSource.read.Goals as goal
use Rattle.std.proofs.Common.{rules}

pub returns-then-is_failing-clause-cause : goal.returns-then-is_failing-clause-cause
returns-then-is_failing-clause-cause c = rw (← c.self.view_is) (counted_fault _ _ _ _ c.saturating_add-self-inside.ensures (search rules))

pub returns-clause-cause : goal.returns-clause-cause
returns-clause-cause c = rw (← c.self.view_is) (kept_count _ _ _ _ c.saturating_add-self-inside.ensures (search rules) (search rules))
