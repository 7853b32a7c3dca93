use Rattle.std.proofs.Common.{ℕ, ◌≡◌, ◌+◌, ◌*◌, ◌/◌, ◌%◌, ◌<◌, ◌⊎◌, ◌↔◌, length, get_or}
use Rattle.std.specs.Prelude.{IsBitSet}
use Rattle.pol_optable.proofs.value_rows.mark_row.Given as goal

abbrev pub invariant-loop-place : goal.invariant-loop-place
invariant-loop-place l = (p v k : ℕ) → p < length l.row → v < 5
    → IsBitSet (get_or l.words (k / 128 * 30 + p * 5 + v) 0) (k % 128)
    ↔ (IsBitSet (get_or l.fn.words (k / 128 * 30 + p * 5 + v) 0) (k % 128)
    ⊎ ((k ≡ l.i) × (p < l.place) × (get_or l.row p 0 ≡ v)))
