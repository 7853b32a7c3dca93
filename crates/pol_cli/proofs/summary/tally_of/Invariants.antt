use Rattle.std.proofs.Common.{◌≡◌, take}
use Rattle.pol_cli.specs.Tallies.{IsTallyByFirst, tallied}
use Rattle.pol_cli.proofs.summary.tally_of.Given as goal

-- the tally of the first instances
abbrev pub invariant-loop-i : goal.invariant-loop-i
invariant-loop-i l = IsTallyByFirst l.file.language l.classes (take l.i l.file.instances) l.tally × (tallied l.tally ≡ l.i)
