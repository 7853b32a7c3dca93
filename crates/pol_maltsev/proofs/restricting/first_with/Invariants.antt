use Rattle.std.proofs.Common.{◌≡◌, ℕ, ◌<◌, get_or, []}
use Rattle.pol_maltsev.proofs.restricting.first_with.Given as goal

-- none of the rows before
abbrev pub invariant-loop-i : goal.invariant-loop-i
invariant-loop-i l = (e : ℕ) → e < l.i → ¬ (get_or (get_or l.rows e []) l.j 0 ≡ l.b)
