use Rattle.std.proofs.Common.{take}
use Rattle.pol_cli.specs.Checks.{AreJudged}
use Rattle.pol_cli.proofs.check.put_verdicts.Given as goal

-- the verdicts on the items so far
abbrev pub invariant-loop-i : goal.invariant-loop-i
invariant-loop-i l = AreJudged l.file (take l.i l.items) l.text l.rejected
