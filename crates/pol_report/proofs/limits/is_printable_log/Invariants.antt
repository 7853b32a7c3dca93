use Rattle.std.proofs.Common.{All, take}
use Rattle.pol_report.specs.Printable.{IsPrintableStep}
use Rattle.pol_report.proofs.limits.is_printable_log.Given as goal

-- the steps so far are printable
abbrev pub invariant-loop-s : goal.invariant-loop-s
invariant-loop-s l = All IsPrintableStep (take l.s l.log)
