use Rattle.std.proofs.Common.{ℕ, ◌<◌, ◌≡◌, [], get_or}
use Rattle.std.specs.Prelude.{IsBitSet}
use Rattle.pol_csp.proofs.words.rows_equal.Given as goal

abbrev pub invariant-loop-row : goal.invariant-loop-row
invariant-loop-row l = (row : ℕ) → row < l.row → get_or (get_or l.r.rows row []) l.first 0 ≡ get_or
    (get_or l.r.rows row []) l.second 0 → IsBitSet l.word row
