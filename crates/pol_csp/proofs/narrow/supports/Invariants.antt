use Rattle.std.proofs.Common.{ℕ, ◌<◌, get_or, length, []}
use Rattle.std.specs.Prelude.{IsBitSet}
use Rattle.pol_csp.specs.Narrowing.{LiesIn}
use Rattle.pol_csp.proofs.narrow.supports.Given as goal

abbrev pub invariant-loop-i : goal.invariant-loop-i
invariant-loop-i l = (i : ℕ) → i < l.i → LiesIn l.masks l.scope (get_or l.r.rows i []) → (j : ℕ) → j < length l.scope
    → IsBitSet (get_or l.found j 0) (get_or (get_or l.r.rows i []) j 0)
