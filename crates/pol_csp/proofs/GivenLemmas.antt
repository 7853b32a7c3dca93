-- The lists that meet a problem's constraints and are wanted.
use Rattle.std.proofs.Common.{◌≡◌, ℕ, ◌<◌, ◌^◌, sym, subst, List, [], ◌∷◌, get_or, length, All, inl, inr, ◌⊎◌}
use Rattle.std.specs.Prelude.{◌++◌, Contains}
use Rattle.std.proofs.lemmas.List.{get_or-map, length-map}
use Rattle.std.proofs.lemmas.List.Elements.{All-contains, All-map, All-push, Contains-get_or}
use Rattle.std.proofs.lemmas.Nat.{pow_pos, pow_below}
use Rattle.pol_base.specs.Masks.{IsMask, AreMasks, IsWithin, single_masks}
use Rattle.pol_base.proofs.BitLemmas.{set_single}
use Rattle.pol_relation.specs.Relations.{LanguageView}
use Rattle.pol_relation.specs.Instances.{ConstraintView, FitsAt, Meets, no_constraint}
use Rattle.pol_csp.specs.Searching.{FollowFrom}
use Rattle.pol_csp.specs.Problems.{ProblemView, FitsLanguage, IsKept}

-- what holds of old and of given ones
All-from_both : (P : ConstraintView → Type 0) (old given new : List ConstraintView)
    → All (λ c. Contains old c ⊎ Contains given c) new
    → All P old
    → All P given
    → All P new
All-from_both P old given new from of_old of_given k e h = by (from k e h)
  where
    by : Contains old (get_or new k e) ⊎ Contains given (get_or new k e) → P (get_or new k e)
    by (inl here) = All-contains P old (get_or new k e) of_old here
    by (inr there) = All-contains P given (get_or new k e) of_given there

-- one of the given ones more
pub from_push : (old given now : List ConstraintView) (i : ℕ)
    → All (λ c. Contains old c ⊎ Contains given c) now
    → i < length given
    → All (λ c. Contains old c ⊎ Contains given c) (now ++ get_or given i no_constraint ∷ [])
from_push old given now i from inside =
    let here = inr (Contains-get_or given i no_constraint inside) in
    All-push (λ c. Contains old c ⊎ Contains given c) now (get_or given i no_constraint) from here

-- constraints of the problem follow from what keeps it
pub follow_given : (W : List ℕ → Type 0) (lang : LanguageView) (p : ProblemView) (n : ℕ)
    (old new : List ConstraintView)
    → n ≡ length p.masks
    → FitsLanguage lang p
    → FollowFrom (IsKept lang p W) lang n old
    → All (λ c. Contains old c ⊎ Contains p.constraints c) new
    → FollowFrom (IsKept lang p W) lang n new
follow_given W lang p n old new counted fits before from = record {
  fits = All-from_both (FitsAt lang n) old p.constraints new from before.fits
      (subst (λ m. All (FitsAt lang m) p.constraints) (sym counted) fits.constraints);
  met = λ xs kept. All-from_both (λ c. Meets lang c xs) old p.constraints new from (before.met xs kept) kept.meets;
}

-- the masks of values below d, one each
pub are_single : (d : ℕ) (values : List ℕ) → All (λ v. v < d) values → AreMasks d (single_masks values)
are_single d values below = All-map (IsMask d) (λ v. 2 ^ v) values
    (λ k e h. record { some = pow_pos (get_or values k e); below = pow_below (get_or values k e) d (below k e h) })

-- a list is within its own masks
pub single_within : (values : List ℕ) → IsWithin (single_masks values) values
single_within values = record {
  long = sym (length-map values (λ v. 2 ^ v));
  within = λ k h. rw (get_or-map (λ v. 2 ^ v) values k 0 0 h) (set_single (get_or values k 0));
}
