use Rattle.std.proofs.Common.{◌≤◌, take}
use Rattle.pol_optable.specs.ClassLines.{all_classes}
use Rattle.pol_optable.specs.Choices.{HasTable}
use Rattle.pol_cli.specs.Summaries.{Counts}
use Rattle.pol_cli.proofs.summary.tables.Given as goal

-- the first classes are counted
abbrev pub invariant-loop-class : goal.invariant-loop-class
invariant-loop-class l = Counts (HasTable l.classes) (take l.class-index all_classes) l.count × (l.count ≤ l.class-index)
