use Rattle.std.proofs.Common.{ℕ, ◌≡◌, ◌/◌, ◌%◌, ◌↔◌}
use Rattle.std.specs.Prelude.{IsBitSet}
use Rattle.pol_optable.proofs.ValueWordLemmas.{HasLowValue}
use Rattle.pol_optable.proofs.value_rows.ValueRows.word_within.Given as goal

abbrev pub invariant-loop-value : goal.invariant-loop-value
invariant-loop-value l = (row : ℕ) → row / 128 ≡ l.i
    → IsBitSet l.word (row % 128) ↔ HasLowValue l.self l.place l.mask l.value row
