-- Masks without one value.
use Rattle.pol_optable.proofs.SetLemmas.{same_masks}
use Rattle.pol_arc.specs.Pruned.{IsWithout}
use Rattle.std.proofs.Common.{◌≡◌, ℕ, ◌^◌, ◌<◌, ◌≤◌, ◌⊎◌, ◌↔◌, inl, inr, List, length, get_or, refl, sym, ap, ◌∙◌, subst, arith, set}
use Rattle.std.specs.Prelude.{IsBitSet, bit_and}
use Rattle.std.proofs.lemmas.Bool.{cases_eq}
use Rattle.std.proofs.lemmas.List.{get_or-set_same, get_or-set_other, length-set}
use Rattle.std.proofs.lemmas.List.Elements.{All-set}
use Rattle.pol_base.proofs.BitLemmas.{set_and, set_left}
use Rattle.std.proofs.lemmas.Nat.{and_le_r}

-- a mask with some of the bits of another is no greater
pub less_bits : (w m : ℕ) → ((v : ℕ) → IsBitSet w v → IsBitSet m v) → w ≤ m
less_bits w m inside =
    let same : w ≡ bit_and w m = same_masks w (bit_and w m) (λ v has. set_and w m v has (inside v has)) (λ v has. set_left w m v has) in
    subst (λ (n : ℕ). n ≤ m) (sym same) (and_le_r w m)

pub without_value : (d : ℕ) (masks : List ℕ) (x a w : ℕ) → x < length masks
    → ((v : ℕ) → IsBitSet w v ↔ (IsBitSet (get_or masks x 0) v × ¬ (v ≡ a))) → IsWithout d masks x a (set masks x w)
without_value d masks x a w inside bits = record {
  long = length-set masks x w;
  below = λ below.
      let less : w ≤ get_or masks x 0 = less_bits w (get_or masks x 0) (λ v has. ((bits v).0 has).0) in
      let top : get_or masks x 0 < 2 ^ d = below x 0 inside in
      All-set (λ m. m < 2 ^ d) masks x w (omega arith) below;
  gone = λ has. ((bits a).0 (subst (λ (m : ℕ). IsBitSet m a) (get_or-set_same masks x w 0 inside) has)).1 refl;
  others = λ y b low apart. by y b apart (cases_eq y x);
}
  where
    by : (y b : ℕ) → ¬ ((y ≡ x) × (b ≡ a)) → (y ≡ x) ⊎ (y ≡ x → ⊥) → IsBitSet (get_or (set masks x w) y 0) b ↔ IsBitSet (get_or masks y 0) b
    by y b apart (inr other) =
        let same : get_or (set masks x w) y 0 ≡ get_or masks y 0 = get_or-set_other masks x y w 0 other in
        (λ has. subst (λ (m : ℕ). IsBitSet m b) same has, λ has. subst (λ (m : ℕ). IsBitSet m b) (sym same) has)
    by y b apart (inl here) =
        let new : get_or (set masks x w) y 0 ≡ w = ap (λ n. get_or (set masks x w) n 0) here ∙ get_or-set_same masks x w 0 inside in
        let old : get_or masks y 0 ≡ get_or masks x 0 = ap (λ n. get_or masks n 0) here in (
          λ has. subst (λ (m : ℕ). IsBitSet m b) (sym old) ((bits b).0 (subst (λ (m : ℕ). IsBitSet m b) new has)).0,
          λ has. subst (λ (m : ℕ). IsBitSet m b) (sym new) ((bits b).1 (subst (λ (m : ℕ). IsBitSet m b) old has, λ equal. apart (here, equal))),
        )
