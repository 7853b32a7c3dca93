use Rattle.std.proofs.Common.{ℕ, ◌<◌, get_or, ◌≡◌, length}
use Rattle.std.specs.Prelude.{IsBitSet}
use Rattle.pol_csp.proofs.narrow.join.Given as goal

abbrev pub invariant-loop-place : goal.invariant-loop-place
invariant-loop-place l = record {
  long : length l.found ≡ 6;
  row : (k : ℕ) → k < l.place → IsBitSet (get_or l.found k 0) (get_or l.row k 0);
  kept : (k v : ℕ) → IsBitSet (get_or l.initial.found k 0) v → IsBitSet (get_or l.found k 0) v;
}
