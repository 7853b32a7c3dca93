-- Sets of values as masks.
use Rattle.std.proofs.Common.{◌≡◌, ◌≢◌, ℕ, ◌^◌, ◌<◌, ◌⊎◌, ◌↔◌, inl, inr, List, [], ◌∷◌, Contains, sym, ◌∙◌, subst, min, max, arith}
use Rattle.std.specs.Prelude.{IsBitSet, bit_and, bit_or}
use Rattle.std.specs.Int.{bit_at, trailing_zeros, w128}
use Rattle.std.proofs.lemmas.Bool.{cases_eq}
use Rattle.std.proofs.lemmas.Nat.Bits.{bit_at_and, bit_at_or, bit_at-lt, bit_at-trailing_zeros, same_from_bits}
use Rattle.pol_base.specs.Masks.{mask_of}
use Rattle.pol_base.proofs.BitLemmas.{at_set, set_at, set_and, set_left, set_or_left, set_or_right, set_single, single_set, set_pos}
use Rattle.pol_base.proofs.MemberLemmas.{Contains-here, Contains-there, Contains-cons_cases, Contains-nil}

-- ---- bits of two masks

set_right : (a b v : ℕ) → IsBitSet (bit_and a b) v → IsBitSet b v
set_right a b v s = set_at b v (second (bit_at a v) (bit_at b v) (bit_at-lt b v) (sym (bit_at_and a b v) ∙ at_set (bit_and a b) v s))
  where
    second : (x y : ℕ) → y < 2 → min x y ≡ 1 → y ≡ 1
    second x y h e = omega arith

pub and_set : (a b v : ℕ) → IsBitSet (bit_and a b) v ↔ (IsBitSet a v × IsBitSet b v)
and_set a b v = (λ both. (set_left a b v both, set_right a b v both), λ each. set_and a b v each.0 each.1)

pub or_set : (a b v : ℕ) → IsBitSet (bit_or a b) v ↔ (IsBitSet a v ⊎ IsBitSet b v)
or_set a b v = (to, λ either. elim either [ inl left ↦ set_or_left a b v left | inr right ↦ set_or_right a b v right ])
  where
    other : (x y : ℕ) → x < 2 → y < 2 → x ≢ 1 → max x y ≡ 1 → y ≡ 1
    other x y h k apart e = omega arith

    to : IsBitSet (bit_or a b) v → IsBitSet a v ⊎ IsBitSet b v
    to set =
        elim (cases_eq (bit_at a v) 1) [
          | inl one ↦ inl (set_at a v one)
          | inr apart ↦ inr (set_at b v (other (bit_at a v) (bit_at b v) (bit_at-lt a v) (bit_at-lt b v) apart
              (sym (bit_at_or a b v) ∙ at_set (bit_or a b) v set)))
        ]

pub set_or_clear : (m v : ℕ) → IsBitSet m v ⊎ (IsBitSet m v → ⊥)
set_or_clear m v = elim (cases_eq (bit_and m (2 ^ v)) 0) [ inl none ↦ inr (λ set. set none) | inr some ↦ inl some ]

-- masks with the same bits are one
pub same_masks : (a b : ℕ) → ((v : ℕ) → IsBitSet a v → IsBitSet b v) → ((v : ℕ) → IsBitSet b v → IsBitSet a v) → a ≡ b
same_masks a b to from = same_from_bits a b same
  where
    none : (x : ℕ) → x < 2 → x ≢ 1 → x ≡ 0
    none x small other = omega arith

    same : (i : ℕ) → bit_at a i ≡ bit_at b i
    same i =
        elim (cases_eq (bit_at a i) 1) [
          | inl one ↦ one ∙ sym (at_set b i (to i (set_at a i one)))
          | inr other ↦ none (bit_at a i) (bit_at-lt a i) other
              ∙ sym (none (bit_at b i) (bit_at-lt b i) (λ one. other (at_set a i (from i (set_at b i one)))))
        ]

-- a set lies in another where the other is not changed by its values
pub or_same : (a b : ℕ) → (bit_or a b ≡ b) ↔ ((v : ℕ) → IsBitSet a v → IsBitSet b v)
or_same a b = (
  λ same v set. subst (λ m. IsBitSet m v) same (set_or_left a b v set),
  λ inside. same_masks (bit_or a b) b
      (λ v set. elim ((or_set a b v).0 set) [ inl left ↦ inside v left | inr right ↦ right ])
      (λ v set. set_or_right a b v set),
)

-- a bit of a word that is not 0
pub record SomeBit (word : ℕ) : Type 0 where
  pub bit : ℕ
  pub small : bit < 128
  pub set : IsBitSet word bit

pub some_bit : (word : ℕ) → word < 2 ^ 128 → word ≢ 0 → SomeBit word
some_bit word small some =
    let found = bit_at-trailing_zeros w128 word (omega arith) small in
    record { bit = trailing_zeros w128 word; small = found.0; set = set_at word (trailing_zeros w128 word) found.1 }

-- ---- the mask of some values

-- has the bits of these
pub set_mask : (values : List ℕ) (v : ℕ) → Contains values v → IsBitSet (mask_of values) v
set_mask [] v member = absurd (Contains-nil v member)
set_mask (w ∷ values) v member =
    elim (Contains-cons_cases w v values member) [
      | inl same ↦ set_or_left (2 ^ w) (mask_of values) v (subst (λ x. IsBitSet (2 ^ w) x) same (set_single w))
      | inr there ↦ set_or_right (2 ^ w) (mask_of values) v (set_mask values v there)
    ]

-- and no others
pub mask_set : (values : List ℕ) (v : ℕ) → IsBitSet (mask_of values) v → Contains values v
mask_set [] v set = absurd (let some = set_pos 0 v set in omega (arith, some))
mask_set (w ∷ values) v set =
    let rest = mask_set values v in
    elim ((or_set (2 ^ w) (mask_of values) v).0 set) [
      | inl here ↦ subst (λ x. Contains (w ∷ values) x) (sym (single_set w v here)) (Contains-here w values)
      | inr there ↦ Contains-there w v values (rest there)
    ]
