-- The two sides of the law of association within masks.
use Rattle.std.proofs.Common.{◌≡◌, ℕ, ◌^◌, [], ◌∷◌, arith, sym, subst, inl, inr, ◌⊎◌}
use Rattle.std.specs.Prelude.{IsBitSet, bit_and}
use Rattle.std.proofs.lemmas.Bool.{cases_eq}
use Rattle.std.proofs.lemmas.Nat.{pow_apart}
use Rattle.pol_base.proofs.BitLemmas.{set_and, set_pos, set_single}
use Rattle.pol_optable.specs.Operations.{Operation, value_at}
use Rattle.pol_identity.specs.Association.{Associates}

-- a mask of one value has it
pub single_has : (m v : ℕ) → m ≡ 2 ^ v → IsBitSet m v
single_has m v single = rw single (set_single v)

-- the values of the two inner cells
pub record Inner (f : Operation) (x y z left right : ℕ) : Type 0 where
  pub left_is : value_at f (x ∷ y ∷ []) ≡ left
  pub right_is : value_at f (y ∷ z ∷ []) ≡ right

module _ (f : Operation) (x y z left right : ℕ) (inner : Inner f x y z left right) where
  -- the law says that the values of the two outer cells are one
  sides : Associates f x y z → value_at f (x ∷ right ∷ []) ≡ value_at f (left ∷ z ∷ [])
  sides law = rw (← inner.left_is, ← inner.right_is) law

  from_sides : value_at f (x ∷ right ∷ []) ≡ value_at f (left ∷ z ∷ []) → Associates f x y z
  from_sides same = rw (inner.left_is, inner.right_is) same

  module _ (m n : ℕ) where
    -- masks without a common value leave the law no table
    pub no_common :
        IsBitSet m (value_at f (x ∷ right ∷ []))
        → IsBitSet n (value_at f (left ∷ z ∷ []))
        → bit_and m n ≡ 0
        → Associates f x y z → ⊥
    no_common here there none law =
        let value = value_at f (x ∷ right ∷ []) in
        let both : IsBitSet n value = subst (λ (v : ℕ). IsBitSet n v) (sym (sides law)) there in
        let some = set_pos (bit_and m n) value (set_and m n value here both) in
        omega (arith, some, none)

    -- masks of one value each that have a common value are those of one value
    pub common :
        m ≡ 2 ^ value_at f (x ∷ right ∷ [])
        → n ≡ 2 ^ value_at f (left ∷ z ∷ [])
        → (bit_and m n ≡ 0 → ⊥)
        → Associates f x y z
    common m_is n_is some =
        from_sides (by (cases_eq (value_at f (x ∷ right ∷ [])) (value_at f (left ∷ z ∷ []))))
      where
        by : (value_at f (x ∷ right ∷ []) ≡ value_at f (left ∷ z ∷ []))
            ⊎ (value_at f (x ∷ right ∷ []) ≡ value_at f (left ∷ z ∷ []) → ⊥)
            → value_at f (x ∷ right ∷ []) ≡ value_at f (left ∷ z ∷ [])
        by (inl same) = same
        by (inr apart) =
            absurd (some (rw (m_is, n_is)
            (pow_apart (value_at f (x ∷ right ∷ [])) (value_at f (left ∷ z ∷ [])) apart)))
