-- Masks of the values of the next variable with which no nogood of a log is held.
use Rattle.std.proofs.Common.{◌≡◌, ℕ, ◌+◌, ◌-◌, ◌^◌, ◌<◌, ◌≤◌, ◌↔◌, List, [], ◌∷◌, ◌++◌, length, arith, inl, inr, ◌⊎◌, sym, subst}
use Rattle.std.specs.Prelude.{IsBitSet, bit_and}
use Rattle.std.proofs.Math.Nat.{one-le-pow}
use Rattle.std.proofs.lemmas.Bool.{cases_eq}
use Rattle.std.proofs.lemmas.Nat.{and_le_l}
use Rattle.std.proofs.lemmas.Nat.Bits.{bit_at_ones}
use Rattle.pol_base.specs.Tuples.{IsDomain}
use Rattle.pol_base.specs.Masks.{IsMask}
use Rattle.pol_base.proofs.BitLemmas.{set_at, set_below, set_pos}
use Rattle.pol_base.proofs.MaskLemmas.{mask_more}
use Rattle.pol_optable.proofs.SetLemmas.{and_set, same_masks}
use Rattle.pol_nogood.specs.Nogoods.{IsContained}
use Rattle.pol_nogood.specs.Logs.{StepView, nogood_at}
use Rattle.pol_strong.specs.Contradictions.{given, Avoids, Completes, IsIndifferent, AreOpenNext}

full_set : (d b : ℕ) → IsBitSet (2 ^ d - 1) b ↔ (b < d)
full_set d b = (
  λ has. let some : 1 ≤ 2 ^ d = one-le-pow d 2 (omega arith) in set_below d (2 ^ d - 1) b (omega arith) has,
  λ below. set_at (2 ^ d - 1) b (bit_at_ones d b below),
)

-- a mask of values below d
mask_below : (d mask : ℕ) → ((b : ℕ) → IsBitSet mask b → b < d) → mask < 2 ^ d
mask_below d mask below =
    let full : ℕ = 2 ^ d - 1 in
    let some : 1 ≤ 2 ^ d = one-le-pow d 2 (omega arith) in
    let is : mask ≡ bit_and full mask
    = same_masks mask (bit_and full mask) (λ b has. (and_set full mask b).1 ((full_set d b).1 (below b has), has))
    (λ b has. ((and_set full mask b).0 has).1) in
    let least : bit_and full mask ≤ full = and_le_l full mask in
    omega arith

module _ (d : ℕ) (log : List StepView) (values : List ℕ) where
  -- before the first step it has all values
  pub open_at_first : AreOpenNext d log 0 values (2 ^ d - 1)
  open_at_first b = (
    λ has. ((full_set d b).0 has, λ s less. absurd (omega (arith, less))),
    λ both. (full_set d b).1 both.0,
  )

  -- the values that avoid the log are the mask of all its steps
  pub open_avoids : (mask : ℕ) → AreOpenNext d log (length log) values mask → (b : ℕ)
      → IsBitSet mask b ↔ ((b < d) × Avoids log (values ++ b ∷ []))
  open_avoids mask opens b = (
    λ has. let both = (opens b).0 has in (both.0, λ found. both.1 found.step found.known found.within),
    λ both. (opens b).1 (both.0, λ s known within. both.1 (record { step = s; known = known; within = within })),
  )

  -- one of the values gives a mask of values below 5
  pub open_is_mask : (count mask b : ℕ) → IsDomain d → AreOpenNext d log count values mask → IsBitSet mask b
      → IsMask 5 mask
  open_is_mask count mask b domain opens has =
      let below : mask < 2 ^ d = mask_below d mask (λ b has. ((opens b).0 has).0) in
      mask_more d 5 mask domain.few (record { some = set_pos mask b has; below = below })

  -- one step more
  module _ (s mask : ℕ) (opens : AreOpenNext d log s values mask) where
    more : (b : ℕ) → ((i : ℕ) → i < s → ¬ IsContained (nogood_at log i) (given (values ++ b ∷ [])))
        → ¬ IsContained (nogood_at log s) (given (values ++ b ∷ []))
        → (i : ℕ) → i < s + 1 → ¬ IsContained (nogood_at log i) (given (values ++ b ∷ []))
    more b before here i less = by (cases_eq i s)
      where
        by : (i ≡ s) ⊎ (i ≡ s → ⊥) → ¬ IsContained (nogood_at log i) (given (values ++ b ∷ []))
        by (inl same) = subst (λ (j : ℕ). ¬ IsContained (nogood_at log j) (given (values ++ b ∷ []))) (sym same) here
        by (inr apart) = before i (omega arith)

    -- whose nogood is held with no value
    pub open_same : s < length log → Avoids log values → IsIndifferent (nogood_at log s) values
        → AreOpenNext d log (s + 1) values mask
    open_same known avoids indifferent b = (
      λ has. let old = (opens b).0 has in
          (old.0, more b old.1 (λ within. avoids (record { step = s; known = known; within = indifferent b within }))),
      λ both. (opens b).1 (both.0, λ i less. both.1 i (omega arith)),
    )

    -- whose nogood is held with one value
    pub open_without : (value left : ℕ) → Completes (nogood_at log s) values value
        → ((b : ℕ) → IsBitSet left b ↔ (IsBitSet mask b × ¬ (b ≡ value)))
        → AreOpenNext d log (s + 1) values left
    open_without value left completes others b = (
      λ has. let kept = (others b).0 has in
          let old = (opens b).0 kept.0 in
          (old.0, more b old.1 (λ within. kept.1 (completes.only b within))),
      λ both. (others b).1 (
        (opens b).1 (both.0, λ i less. both.1 i (omega arith)),
        λ same. both.1 s (omega arith)
            (subst (λ (v : ℕ). IsContained (nogood_at log s) (given (values ++ v ∷ [])))
            (sym same) completes.completed),
      ),
    )
