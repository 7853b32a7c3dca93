use Rattle.std.proofs.Common.{ℕ, ◌<◌, [], get_or, length}
use Rattle.std.specs.Prelude.{IsBitSet}
use Rattle.pol_csp.proofs.words.values_at.Given as goal

abbrev pub invariant-loop-value : goal.invariant-loop-value
invariant-loop-value l = (row : ℕ) → row < length l.r.rows → IsBitSet l.word row → get_or (get_or l.r.rows row [])
    l.place 0 < l.value → IsBitSet l.found (get_or (get_or l.r.rows row []) l.place 0)
