use Rattle.std.proofs.Common.{◌≡◌, ℕ, ◌*◌, ◌^◌, ◌<◌, ◌≤◌, ◌+◌, length, get_or, take}
use Rattle.pol_base.specs.Tuples.{cell_of}
use Rattle.pol_optable.specs.Operations.{column}
use Rattle.pol_optable.specs.Breaks.{rows_at}
use Rattle.pol_optable.proofs.table.OpTable.first_cells.Given as goal

abbrev pub invariant-loop-number : goal.invariant-loop-number
invariant-loop-number g l = record {
  long : length l.firsts ≡ 6;
  cells : (k : ℕ) → k < l.relation.arity → get_or l.firsts k 0
      ≡ cell_of l.self.domain (column (rows_at l.relation (take l.number-index l.front)) k) * l.self.domain;
  room : (k : ℕ) → k < l.relation.arity → get_or l.firsts k 0 + l.self.domain ≤ l.self.domain ^ (l.number-index + 1);
}
