use Rattle.std.proofs.Common.{ℕ, ◌/◌, ◌<◌, ◌↔◌}
use Rattle.pol_optable.specs.ValueWords.{HasNumber, HasValueOf}
use Rattle.pol_optable.proofs.value_rows.ValueRows.narrow.Given as goal

abbrev pub invariant-loop-i : goal.invariant-loop-i
invariant-loop-i l = (row : ℕ) → row / 128 < l.i
    → HasNumber l.to row ↔ (HasNumber l.from row × HasValueOf l.self l.place l.mask row)
