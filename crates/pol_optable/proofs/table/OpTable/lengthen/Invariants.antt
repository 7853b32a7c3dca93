use Rattle.std.proofs.Common.{◌*◌, ◌≤◌}
use Rattle.pol_optable.proofs.HalfLemmas.{Lengthens}
use Rattle.pol_optable.proofs.table.OpTable.lengthen.Given as goal

-- the lists that begin with the values from this one on are done
abbrev pub invariant-loop-value : goal.invariant-loop-value
invariant-loop-value g l = record {
  within : l.value ≤ l.self.domain;
  so_far : Lengthens l.self l.first l.weight l.count (l.value * l.count) l.fn.cells l.cells;
}

abbrev pub decreases-loop-value : goal.decreases-loop-value
decreases-loop-value g l = l.value
