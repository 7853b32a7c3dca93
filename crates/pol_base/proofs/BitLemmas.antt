-- One bit of a mask.
use Rattle.std.proofs.Common.{◌≡◌, ℕ, zero, suc, ◌*◌, ◌^◌, ◌<◌, ◌≤◌, arith, sym, ◌∙◌, refl, inl, inr, min, max, ◌⊎◌}
use Rattle.std.specs.Prelude.{IsBitSet, bit_and, bit_or, ◌≢◌}
use Rattle.std.specs.Int.{bit_at}
use Rattle.std.proofs.lemmas.Nat.{pow_pos}
use Rattle.std.proofs.lemmas.Nat.Bits.{and_pow, bit_at_and, bit_at_or, bit_at-pow_same, bit_at-pow_other, bit_at_above, bit_at-lt, bit_at-zero}
use Rattle.std.proofs.lemmas.Bool.{cases_eq, cases_lt}

pub apart : (b : ℕ) → b ≡ 0 → b ≡ 1 → ⊥
apart b e h = omega arith

pub at_set : (m v : ℕ) → IsBitSet m v → bit_at m v ≡ 1
at_set m v s = one (bit_at m v) (2 ^ v) (bit_at-lt m v) (λ e. s (and_pow m v ∙ e))
  where
    one : (b p : ℕ) → b < 2 → (b * p ≡ 0 → ⊥) → b ≡ 1
    one b p h non = at b h non
      where
        at : (b : ℕ) → b < 2 → (b * p ≡ 0 → ⊥) → b ≡ 1
        at zero h non = absurd (non (omega arith))
        at (suc c) h non = omega arith

pub set_at : (m v : ℕ) → bit_at m v ≡ 1 → IsBitSet m v
set_at m v e none = some (2 ^ v) (bit_at m v) (pow_pos v) e (sym (and_pow m v) ∙ none)
  where
    some : (p b : ℕ) → 0 < p → b ≡ 1 → b * p ≡ 0 → ⊥
    some p b h e z = let w : 1 * p ≡ 0 = rw (← e) z in omega arith

pub set_and : (a b v : ℕ) → IsBitSet a v → IsBitSet b v → IsBitSet (bit_and a b) v
set_and a b v sa sb = set_at (bit_and a b) v (bit_at_and a b v ∙ rw (at_set a v sa, at_set b v sb) refl)

pub set_left : (a b v : ℕ) → IsBitSet (bit_and a b) v → IsBitSet a v
set_left a b v s = set_at a v (both (bit_at a v) (bit_at b v) (bit_at-lt a v) (sym (bit_at_and a b v) ∙ at_set (bit_and a b) v s))
  where
    both : (x y : ℕ) → x < 2 → min x y ≡ 1 → x ≡ 1
    both x y h e = omega arith

pub set_or_left : (a b v : ℕ) → IsBitSet a v → IsBitSet (bit_or a b) v
set_or_left a b v s = set_at (bit_or a b) v (bit_at_or a b v ∙ some (bit_at a v) (bit_at b v) (at_set a v s) (bit_at-lt b v))
  where
    some : (x y : ℕ) → x ≡ 1 → y < 2 → max x y ≡ 1
    some x y h e = omega arith

pub set_or_right : (a b v : ℕ) → IsBitSet b v → IsBitSet (bit_or a b) v
set_or_right a b v s = set_at (bit_or a b) v (bit_at_or a b v ∙ some (bit_at a v) (bit_at b v) (bit_at-lt a v) (at_set b v s))
  where
    some : (x y : ℕ) → x < 2 → y ≡ 1 → max x y ≡ 1
    some x y h e = omega arith

pub set_single : (v : ℕ) → IsBitSet (2 ^ v) v
set_single v = set_at (2 ^ v) v (bit_at-pow_same v)

pub single_set : (v x : ℕ) → IsBitSet (2 ^ v) x → x ≡ v
single_set v x s = at (cases_eq x v)
  where
    at : (x ≡ v) ⊎ (x ≢ v) → x ≡ v
    at (inl e) = e
    at (inr ne) = absurd (apart _ (bit_at-pow_other v x ne) (at_set (2 ^ v) x s))

pub set_pos : (m v : ℕ) → IsBitSet m v → 0 < m
set_pos m v s = at (cases_eq m 0)
  where
    at : (m ≡ 0) ⊎ (m ≢ 0) → 0 < m
    at (inl e) = absurd (apart _ (bit_at-zero v) (rw e at (at_set m v s)))
    at (inr ne) = omega arith

pub set_below : (d m v : ℕ) → m < 2 ^ d → IsBitSet m v → v < d
set_below d m v less s = at (cases_lt v d)
  where
    at : (v < d) ⊎ (d ≤ v) → v < d
    at (inl h) = h
    at (inr h) = absurd (apart _ (bit_at_above m d v less h) (at_set m v s))
