-- the names so far have other words
use Rattle.std.proofs.Common.{◌≢◌, ℕ, ◌<◌, slice_index_or}
use Rattle.pol_base.specs.Names.{class_word}
use Rattle.pol_base.specs.declared.class_name.ClassName.{ClassName}
use Rattle.pol_base.proofs.class_name.class_of.Given as goal

abbrev pub invariant-loop-name : goal.invariant-loop-name
invariant-loop-name l = (k : ℕ) (d : ClassName) → k < l.name-index → l.word ≢ class_word (slice_index_or l.name-items k d)
