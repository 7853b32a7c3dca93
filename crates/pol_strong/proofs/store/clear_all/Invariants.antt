use Rattle.std.proofs.Common.{◌≡◌, ◌<◌, ℕ, length, get_or}
use Rattle.std.specs.Prelude.{IsBitSet}
use Rattle.std.specs.List.{remove}
use Rattle.pol_strong.specs.Stores.{Clears, mask_place, pair_of}
use Rattle.pol_strong.proofs.store.clear_all.Given as goal

abbrev pub invariant-loop-i : goal.invariant-loop-i
invariant-loop-i l = record {
  long : length l.filter ≡ length l.initial.filter;
  less : Clears l.initial.filter l.filter;
  cleared : (i : ℕ) → i < l.i → IsBitSet (get_or l.filter (mask_place l.n l.d (remove l.nogood i) (pair_of l.nogood i).variable) 0) (pair_of l.nogood i).value → ⊥;
}
