use Rattle.std.proofs.Common.{◌≤◌, length, drop}
use Rattle.pol_optable.proofs.HalfLemmas.{FillsHalf}
use Rattle.pol_optable.proofs.table.OpTable.half_cells.Given as goal

abbrev pub invariant-loop-place : goal.invariant-loop-place
invariant-loop-place g l = record {
  within : l.place ≤ length l.firsts;
  fills : FillsHalf l.self (drop l.place l.firsts) l.weight l.count l.place_weight l.cells;
}

abbrev pub decreases-loop-place : goal.decreases-loop-place
decreases-loop-place g l = l.place
