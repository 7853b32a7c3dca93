use Rattle.std.proofs.Common.{ℕ, ◌/◌, ◌<◌, ◌↔◌, length}
use Rattle.pol_optable.specs.ValueWords.{HasNumber}
use Rattle.pol_optable.proofs.value_rows.ValueRows.put_all.Given as goal

abbrev pub invariant-loop-i : goal.invariant-loop-i
invariant-loop-i l = (row : ℕ) → row / 128 < l.i → HasNumber l.to row ↔ (row < length l.self.rows)
