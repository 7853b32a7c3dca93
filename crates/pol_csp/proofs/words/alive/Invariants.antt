use Rattle.std.proofs.Common.{ℕ, ◌<◌, [], get_or, length}
use Rattle.std.specs.Prelude.{IsBitSet}
use Rattle.pol_csp.specs.Narrowing.{LiesIn}
use Rattle.pol_csp.specs.Words.{IsSameAtRepeats}
use Rattle.pol_csp.proofs.words.alive.Given as goal

abbrev pub invariant-loop-place : goal.invariant-loop-place
invariant-loop-place l = (row : ℕ) → row < length l.r.rows → LiesIn l.masks l.scope (get_or l.r.rows row []) →
    IsSameAtRepeats l.scope (get_or l.r.rows row []) → IsBitSet l.alive row

abbrev pub invariant-loop-other : goal.invariant-loop-other
invariant-loop-other l = (row : ℕ) → row < length l.r.rows → LiesIn l.masks l.scope (get_or l.r.rows row []) →
    IsSameAtRepeats l.scope (get_or l.r.rows row []) → IsBitSet l.alive row
