use Rattle.std.proofs.Common.{ℕ, ◌<◌}
use Rattle.pol_relation.specs.Relations.{relation_of}
use Rattle.pol_optable.specs.SetFunctions.{PreservesSets}
use Rattle.pol_tests_solve.proofs.arcs.preserves.Given as goal

abbrev pub invariant-loop-i : goal.invariant-loop-i
invariant-loop-i l = (k : ℕ) → k < l.i → PreservesSets l.g (relation_of l.language k)
