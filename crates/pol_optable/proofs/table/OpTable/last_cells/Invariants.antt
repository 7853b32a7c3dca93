use Rattle.std.proofs.Common.{◌≡◌, ℕ, ◌*◌, ◌<◌, ◌+◌, length, get_or}
use Rattle.pol_optable.proofs.table.OpTable.last_cells.Given as goal

abbrev pub invariant-loop-value : goal.invariant-loop-value
invariant-loop-value g l = record {
  long : length l.cells ≡ 125;
  put : (v : ℕ) → v < l.value → get_or l.cells v 0 ≡ get_or l.self.cells (l.first + v) 0 * l.weight;
}
