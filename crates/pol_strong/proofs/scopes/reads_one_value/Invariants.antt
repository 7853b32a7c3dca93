use Rattle.std.proofs.Common.{◌<◌, ◌≡◌, ℕ, get_or}
use Rattle.pol_strong.specs.Covers.{first_place}
use Rattle.pol_strong.proofs.scopes.reads_one_value.Given as goal

abbrev pub invariant-loop-place : goal.invariant-loop-place
invariant-loop-place l = (i : ℕ) → i < l.place → get_or l.row (first_place l.scope (get_or l.scope i 0)) 0 ≡ get_or l.row i 0
