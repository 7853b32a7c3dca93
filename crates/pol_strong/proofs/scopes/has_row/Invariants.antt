use Rattle.std.proofs.Common.{◌<◌, ◌≡◌, ℕ, get_or}
use Rattle.pol_strong.specs.Covers.{row_at}
use Rattle.pol_strong.proofs.scopes.has_row.Given as goal

abbrev pub invariant-loop-i : goal.invariant-loop-i
invariant-loop-i l = (k : ℕ) → k < l.i → get_or (row_at l.relation.rows (get_or l.rows k 0)) l.place 0 ≡ l.a → ⊥
