use Rattle.std.proofs.Common.{All, take}
use Rattle.pol_report.specs.Printable.{IsPrintablePart}
use Rattle.pol_report.proofs.limits.are_printable_parts.Given as goal

-- the parts so far are printable
abbrev pub invariant-loop-i : goal.invariant-loop-i
invariant-loop-i l = All IsPrintablePart (take l.i l.combination.parts)
