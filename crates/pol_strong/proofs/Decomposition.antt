-- A set of tuples that a near unanimity operation preserves is determined by what it is at fewer places than the
-- operation has arguments (Baker and Pixley).
use Rattle.std.proofs.Common.{◌≡◌, ℕ, suc, zero, ◌+◌, ◌-◌, ◌<◌, ◌≤◌, List, [], length, All, arith, get_or, inl, inr, sym, ◌∙◌, ◌⊎◌, subst}
use Rattle.std.specs.Prelude.{◌≢◌, remove}
use Rattle.std.specs.List.{range_with_len}
use Rattle.std.proofs.lemmas.Bool.{cases_lt, cases_order}
use Rattle.std.proofs.lemmas.List.{ext_get_or}
use Rattle.std.proofs.lemmas.List.Edits.{length-remove, get_or-remove_below, get_or-remove_above}
use Rattle.std.proofs.lemmas.List.FromFn.{length-range_with_len, get_or-range_with_len}
use Rattle.pol_base.specs.Tuples.{IsTuple}
use Rattle.pol_optable.specs.Operations.{Operation, image}
use Rattle.pol_optable.specs.Identities.{IsNearUnanimity}
use Rattle.pol_strong.specs.Parts.{SameAt, Agrees, KeepsTuples}
use Rattle.pol_strong.proofs.Choosing.{choose}
use Rattle.pol_strong.proofs.ImagePlaces.{image_but_one}

-- what holds of all elements but the one at i holds of another
All-from_remove : (P : ℕ → Type 0) (xs : List ℕ) (i p d : ℕ) → i < length xs → p < length xs → p ≢ i
    → All P (remove xs i)
    → P (get_or xs p d)
All-from_remove P xs i p d within inside apart all = by (cases_order p i)
  where
    by : (p ≡ i) ⊎ ((p < i) ⊎ (i < p)) → P (get_or xs p d)
    by (inl same) = absurd (apart same)
    by (inr (inl less)) =
        rw (get_or-remove_below xs i d p less within) at (all p d (omega (arith, length-remove xs i within)))
    by (inr (inr more)) =
        let behind : p ≡ (p - 1) + 1 = omega arith in
        rw behind (rw (get_or-remove_above xs i d (p - 1) (omega arith) within) at
        (all (p - 1) d (omega (arith, length-remove xs i within))))

-- what holds of all elements holds without the one at i
All-remove : (P : ℕ → Type 0) (xs : List ℕ) (i : ℕ) → i < length xs → All P xs → All P (remove xs i)
All-remove P xs i within all p d inside = by (cases_lt p i)
  where
    by : (p < i) ⊎ (i ≤ p) → P (get_or (remove xs i) p d)
    by (inl less) = rw (get_or-remove_below xs i d p less within) (all p d (omega arith))
    by (inr more) =
        rw (get_or-remove_above xs i d p more within) (all (p + 1) d (omega (arith, length-remove xs i within)))

module _ (f : Operation) (near : IsNearUnanimity f) (n : ℕ) (T : List ℕ → Type 0) (keeps : KeepsTuples f n T)
    (t : List ℕ) (is : IsTuple f.domain n t) where
  -- tuples that agree with t at all of the places but each of the first ones make one that agrees at all
  agrees_more : (places : List ℕ) → All (λ j. j < n) places → f.arity ≤ length places
      → ((i : ℕ) → i < f.arity → Agrees T t (remove places i))
      → Agrees T t places
  agrees_more places below room agrees =
      let chosen = choose (λ i r. T r × SameAt (remove places i) r t) f.arity
      (λ i h. let a = agrees i h in (a.row, (a.inside, a.same))) in
      from chosen.0 chosen.1 chosen.2
    where
      from : (ts : List (List ℕ)) → length ts ≡ f.arity
          → ((i : ℕ) (d : List ℕ) → i < f.arity → T (get_or ts i d) × SameAt (remove places i) (get_or ts i d) t)
          → Agrees T t places
      from ts long each = record {
        row = image f n ts;
        inside = keeps.images ts long (λ i d h. (each i d (omega arith)).0);
        same = λ p d h.
            let j : ℕ = get_or places p d in
            image_but_one f near n j (get_or t j 0) p ts long (below p d h)
            (λ i d h. keeps.tuples (get_or ts i d) (each i d (omega arith)).0)
            (is.below j 0 (rw is.long (below p d h)))
            (λ i k apart. All-from_remove (λ j. get_or (get_or ts i []) j 0 ≡ get_or t j 0) places i p d (omega arith) h
            (λ same. apart (sym same)) (each i [] k).1);
      }

  -- so at any places, where it is so at fewer places than the operation has arguments
  agrees_up_to : ((places : List ℕ) → All (λ j. j < n) places → length places < f.arity → Agrees T t places)
      → (k : ℕ) (places : List ℕ) → length places ≤ k → All (λ j. j < n) places → 1 ≤ f.arity → Agrees T t places
  agrees_up_to small zero places short below some = small places below (omega arith)
  agrees_up_to small (suc k) places short below some = by (cases_lt (length places) f.arity) (λ i h room.
      agrees_up_to small k (remove places i) (omega (arith, length-remove places i (omega arith)))
      (All-remove (λ j. j < n) places i (omega arith) below) some)
    where
      by : (length places < f.arity) ⊎ (f.arity ≤ length places)
          → ((i : ℕ) → i < f.arity → f.arity ≤ length places → Agrees T t (remove places i))
          → Agrees T t places
      by (inl less) rest = small places below less
      by (inr room) rest = agrees_more places below room (λ i h. rest i h room)

  -- a tuple that agrees with tuples of the set at all choices of fewer places than the operation has arguments is one
  pub by_parts : 1 ≤ f.arity
      → ((places : List ℕ) → All (λ j. j < n) places → length places < f.arity → Agrees T t places)
      → T t
  by_parts some small =
      let counted : length (range_with_len 0 n) ≡ n = length-range_with_len 0 n in
      let place : (i d : ℕ) → i < n → get_or (range_with_len 0 n) i d ≡ i
      = λ i d h. omega (arith, get_or-range_with_len 0 n i d h) in
      let all : Agrees T t (range_with_len 0 n)
      = agrees_up_to small n (range_with_len 0 n) (omega arith)
      (λ i d h. rw (place i d (omega arith)) (omega arith)) some in
      let tuple : IsTuple f.domain n all.row = keeps.tuples all.row all.inside in
      let same : all.row ≡ t = ext_get_or 0 all.row t (tuple.long ∙ sym is.long) (λ j h.
      rw (place j 0 (omega (arith, tuple.long))) at (all.same j 0 (omega (arith, tuple.long)))) in
      subst T same all.inside
