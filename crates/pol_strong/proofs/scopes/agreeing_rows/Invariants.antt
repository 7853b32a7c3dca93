use Rattle.std.proofs.Common.{◌<◌, ◌≡◌, ℕ, [], true, length, All, Contains}
use Rattle.pol_nogood.specs.Logs.{is_case}
use Rattle.pol_strong.specs.Covers.{row_at}
use Rattle.pol_strong.proofs.scopes.agreeing_rows.Given as goal

abbrev pub invariant-loop-r : goal.invariant-loop-r
invariant-loop-r l = record {
  known : All (λ r. r < length l.relation.rows) l.rows;
  cases : All (λ r. is_case l.scope [] (row_at l.relation.rows r) ≡ true) l.rows;
  all : (r : ℕ) → r < l.r → is_case l.scope [] (row_at l.relation.rows r) ≡ true → Contains l.rows r;
}
