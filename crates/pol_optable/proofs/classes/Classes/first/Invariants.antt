use Rattle.std.proofs.Common.{ℕ, ◌<◌}
use Rattle.std.specs.Prelude.{slice_index_or}
use Rattle.pol_base.specs.declared.class_name.ClassName.TheVariants.{Constant}
use Rattle.pol_optable.specs.ClassLines.{all_classes}
use Rattle.pol_optable.specs.Choices.{HasTable}
use Rattle.pol_optable.proofs.classes.Classes.first.Given as goal

-- no class so far has a table
abbrev pub invariant-loop-class : goal.invariant-loop-class
invariant-loop-class l = (k : ℕ) → k < l.class-index → ¬ HasTable l.self (slice_index_or all_classes k Constant)
