use Rattle.std.proofs.Common.{ℕ, ◌<◌}
use Rattle.pol_relation.specs.Relations.{relation_of}
use Rattle.pol_optable.specs.Operations.{Preserves}
use Rattle.pol_classify.proofs.affine.preserves_all.Given as goal

abbrev pub invariant-loop-i : goal.invariant-loop-i
invariant-loop-i l = (i : ℕ) → i < l.i → Preserves l.table (relation_of l.lang i)
