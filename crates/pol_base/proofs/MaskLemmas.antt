-- Masks of values below d, and one value of a mask.
use Rattle.std.proofs.Common.{◌≡◌, ℕ, ◌*◌, ◌%◌, ◌^◌, ◌<◌, ◌≤◌, List, get_or, length, arith, ◌∙◌, inl, inr, ◌⊎◌}
use Rattle.std.specs.Prelude.{IsBitSet, bit_and, ◌↔◌}
use Rattle.std.specs.Int.{bit_at, bit_not, trailing_zeros, w8}
use Rattle.std.proofs.Math.Nat.{pow-le-pow_right}
use Rattle.std.proofs.lemmas.Bool.{cases_lt}
use Rattle.std.proofs.lemmas.List.{get_or_default}
use Rattle.std.proofs.lemmas.Nat.Bits.{bit_at_clear_same, bit_at_clear_other, bit_at-trailing_zeros}
use Rattle.pol_base.specs.Tuples.{IsTuple}
use Rattle.pol_base.specs.Masks.{IsMask, AreMasks, IsWithin}
use Rattle.pol_base.proofs.BitLemmas.{apart, at_set, set_at, set_left, set_below}

-- values within masks of values below d are below d
pub within_below : (d : ℕ) (masks xs : List ℕ) → AreMasks d masks → IsWithin masks xs → IsTuple d (length masks) xs
within_below d masks xs are w = record { long = w.long; below = below }
  where
    below : (k e : ℕ) → k < length xs → get_or xs k e < d
    below k e h =
        let mask = are k 0 (omega (arith, w.long)) in
        rw (get_or_default xs k e 0 h) (set_below d (get_or masks k 0) (get_or xs k 0) mask.below (w.within k h))

-- a mask of values below d is one of values below a greater number
pub mask_more : (d e m : ℕ) → d ≤ e → IsMask d m → IsMask e m
mask_more d e m more is =
    let up : 2 ^ d ≤ 2 ^ e = pow-le-pow_right (omega arith) more in
    record { some = is.some; below = (let top : m < 2 ^ d = is.below in omega arith) }

pub masks_more : (d e : ℕ) (masks : List ℕ) → d ≤ e → AreMasks d masks → AreMasks e masks
masks_more d e masks more are k none h = mask_more d e (get_or masks k none) more (are k none h)

-- the least value of a mask
pub lowest_set : (m : ℕ) → IsMask 5 m → IsBitSet m (trailing_zeros w8 m)
lowest_set m is =
    let small : m < 256 = (let top : m < 32 = is.below in omega arith) in
    set_at m (trailing_zeros w8 m) ((bit_at-trailing_zeros w8 m is.some small).1)

pub lowest_least : (m v : ℕ) → IsMask 5 m → IsBitSet m v → trailing_zeros w8 m ≤ v
lowest_least m v is has = by (cases_lt v (trailing_zeros w8 m))
  where
    by : (v < trailing_zeros w8 m) ⊎ (trailing_zeros w8 m ≤ v) → trailing_zeros w8 m ≤ v
    by (inl less) =
        let small : m < 256 = (let top : m < 32 = is.below in omega arith) in
        absurd (apart (bit_at m v) ((bit_at-trailing_zeros w8 m is.some small).2 v less) (at_set m v has))
    by (inr le) = le

-- a mask with one bit cleared
abbrev pub cleared : ℕ → ℕ → ℕ
cleared m v = bit_and m (bit_not w8 (1 * 2 ^ v % 2 ^ 8))

pub set_cleared : (m v u : ℕ) → v < 8 → m < 2 ^ 8 → IsBitSet (cleared m v) u ↔ (IsBitSet m u × (u ≡ v → ⊥))
set_cleared m v u low small = (
  λ has. (inside has, λ same. apart (bit_at (cleared m v) v) zero (at_set (cleared m v) v (rw same at has))),
  λ both. set_at (cleared m v) u (other both.0 both.1 ∙ at_set m u both.0),
)
  where
    zero : bit_at (cleared m v) v ≡ 0
    zero = bit_at_clear_same w8 m v low

    other : IsBitSet m u → (u ≡ v → ⊥) → bit_at (cleared m v) u ≡ bit_at m u
    other has apart_from = bit_at_clear_other w8 m v low u (set_below 8 m u small has) apart_from

    inside : IsBitSet (cleared m v) u → IsBitSet m u
    inside has = set_left m (bit_not w8 (1 * 2 ^ v % 2 ^ 8)) u has
