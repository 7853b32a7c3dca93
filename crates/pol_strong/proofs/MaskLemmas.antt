-- Masks of which values are cleared.
use Rattle.std.proofs.Common.{◌≡◌, ℕ, ◌+◌, ◌^◌, ◌<◌, All, ◌⊎◌, inl, inr, List, length, get_or, set, subst, sym, arith}
use Rattle.std.specs.Prelude.{IsBitSet, bit_and}
use Rattle.std.proofs.lemmas.Bool.{cases_eq}
use Rattle.std.proofs.lemmas.Nat.{and_comm, and_le_l}
use Rattle.std.proofs.lemmas.List.Elements.{All-set}
use Rattle.std.proofs.lemmas.List.{get_or-set_same, get_or-set_other}
use Rattle.pol_base.proofs.BitLemmas.{set_left}

set_right : (a b v : ℕ) → IsBitSet (bit_and a b) v → IsBitSet b v
set_right a b v here = set_left b a v (subst (λ (m : ℕ). IsBitSet m v) (and_comm a b) here)

-- what is changed at one place has no new values, if the place has none
pub less_at : (masks : List ℕ) (k m v a : ℕ) → k < length masks → (IsBitSet m a → IsBitSet (get_or masks k 0) a) → IsBitSet (get_or (set masks k m) v 0) a → IsBitSet (get_or masks v 0) a
less_at masks k m v a inside less here = by (cases_eq v k)
  where
    by : (v ≡ k) ⊎ (v ≡ k → ⊥) → IsBitSet (get_or masks v 0) a
    by (inl same) = subst (λ (n : ℕ). IsBitSet (get_or masks n 0) a) (sym same) (less (subst (λ (n : ℕ). IsBitSet n a) (get_or-set_same masks k m 0 inside) (subst (λ (n : ℕ). IsBitSet (get_or (set masks k m) n 0) a) same here)))
    by (inr other) = subst (λ (n : ℕ). IsBitSet n a) (get_or-set_other masks k v m 0 other) here

pub meet_less : (masks : List ℕ) (k other v a : ℕ) → k < length masks → IsBitSet (get_or (set masks k (bit_and (get_or masks k 0) other)) v 0) a → IsBitSet (get_or masks v 0) a
meet_less masks k other v a inside here = less_at masks k (bit_and (get_or masks k 0) other) v a inside (λ both. set_left (get_or masks k 0) other a both) here

pub meet_below : (masks : List ℕ) (k other d : ℕ) → k < length masks → All (λ m. m < 2 ^ d) masks → All (λ m. m < 2 ^ d) (set masks k (bit_and (get_or masks k 0) other))
meet_below masks k other d inside all = let here : get_or masks k 0 < 2 ^ d = all k 0 inside in All-set (λ m. m < 2 ^ d) masks k (bit_and (get_or masks k 0) other) (omega (arith, and_le_l (get_or masks k 0) other)) all

pub meet_others : (masks others : List ℕ) (place k : ℕ) → k < length masks → ((v a : ℕ) → v < k → IsBitSet (get_or masks v 0) a → IsBitSet (get_or others (place + v) 0) a)
    → (v a : ℕ) → v < k + 1 → IsBitSet (get_or (set masks k (bit_and (get_or masks k 0) (get_or others (place + k) 0))) v 0) a → IsBitSet (get_or others (place + v) 0) a
meet_others masks others place k inside before v a less here = by (cases_eq v k)
  where
    m : ℕ
    m = bit_and (get_or masks k 0) (get_or others (place + k) 0)

    by : (v ≡ k) ⊎ (v ≡ k → ⊥) → IsBitSet (get_or others (place + v) 0) a
    by (inl same) = subst (λ (n : ℕ). IsBitSet (get_or others (place + n) 0) a) (sym same) (set_right (get_or masks k 0) (get_or others (place + k) 0) a (subst (λ (n : ℕ). IsBitSet n a) (get_or-set_same masks k m 0 inside) (subst (λ (n : ℕ). IsBitSet (get_or (set masks k m) n 0) a) same here)))
    by (inr other) = before v a (omega arith) (subst (λ (n : ℕ). IsBitSet n a) (get_or-set_other masks k v m 0 other) here)
