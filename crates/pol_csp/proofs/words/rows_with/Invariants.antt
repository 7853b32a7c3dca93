use Rattle.std.proofs.Common.{ℕ, ◌<◌, [], get_or}
use Rattle.std.specs.Prelude.{IsBitSet}
use Rattle.pol_csp.proofs.words.rows_with.Given as goal

abbrev pub invariant-loop-row : goal.invariant-loop-row
invariant-loop-row l = (row : ℕ) → row < l.row → IsBitSet l.mask (get_or (get_or l.r.rows row []) l.place 0) →
    IsBitSet l.word row
