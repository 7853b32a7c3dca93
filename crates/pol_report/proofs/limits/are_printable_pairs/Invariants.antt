use Rattle.std.proofs.Common.{All, take}
use Rattle.pol_report.specs.Printable.{IsPrintablePair}
use Rattle.pol_report.proofs.limits.are_printable_pairs.Given as goal

-- the pairs so far are printable
abbrev pub invariant-loop-i : goal.invariant-loop-i
invariant-loop-i l = All IsPrintablePair (take l.i l.nogood)
