use Rattle.std.proofs.Common.{ℕ, ◌/◌, ◌<◌, ◌↔◌}
use Rattle.pol_optable.specs.ValueWords.{HasNumber, HasValue}
use Rattle.pol_optable.proofs.value_rows.ValueRows.keep.Given as goal

abbrev pub invariant-loop-i : goal.invariant-loop-i
invariant-loop-i l = (row : ℕ) → row / 128 < l.i
    → HasNumber l.to row ↔ (HasNumber l.from row × HasValue l.self l.place l.value row)
