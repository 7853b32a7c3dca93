use Rattle.std.proofs.Common.{◌<◌, ◌≡◌, ℕ, get_or, All, Contains}
use Rattle.pol_strong.specs.Covers.{row_at}
use Rattle.pol_strong.proofs.scopes.rows_with.Given as goal

abbrev pub invariant-loop-i : goal.invariant-loop-i
invariant-loop-i l = record {
  among : All (Contains l.rows) l.some;
  read : All (λ r. get_or (row_at l.relation.rows r) l.place 0 ≡ l.a) l.some;
  all : (k : ℕ) → k < l.i → get_or (row_at l.relation.rows (get_or l.rows k 0)) l.place 0 ≡ l.a → Contains l.some (get_or l.rows k 0);
}
