use Rattle.std.proofs.Common.{◌≡◌, ℕ, ◌+◌, ◌<◌, ◌^◌, All, length, get_or}
use Rattle.std.specs.Prelude.{IsBitSet}
use Rattle.pol_strong.proofs.masks.meet.Given as goal

abbrev pub invariant-loop-v : goal.invariant-loop-v
invariant-loop-v l = record {
  long : length l.met ≡ 40;
  less : (v a : ℕ) → IsBitSet (get_or l.met v 0) a → IsBitSet (get_or l.masks v 0) a;
  below : (d : ℕ) → All (λ m. m < 2 ^ d) l.masks → All (λ m. m < 2 ^ d) l.met;
  others : (v a : ℕ) → v < l.v → IsBitSet (get_or l.met v 0) a → IsBitSet (get_or l.others (l.place + v) 0) a;
}
