-- A family of parts that a near unanimity operation preserves, and in which the small parts extend: all parts do.
use Rattle.std.proofs.Common.{◌≡◌, ℕ, suc, zero, ◌+◌, ◌<◌, ◌≤◌, List, [], ◌∷◌, length, arith, ap, get_or, set, inl, inr, refl, sym, ◌∙◌, ◌⊎◌, subst}
use Rattle.std.specs.Prelude.{◌≢◌, Contains, remove, AllPairs}
use Rattle.std.proofs.lemmas.Bool.{cases_lt}
use Rattle.std.proofs.lemmas.List.{get_or-set_same, get_or-set_other}
use Rattle.std.proofs.lemmas.List.Edits.{length-remove}
use Rattle.std.proofs.lemmas.List.Quantifiers.{all_pairs_remove}
use Rattle.std.proofs.lemmas.List.Elements.{Contains-get_or, All-contains, All-cons}
use Rattle.pol_base.specs.Tuples.{IsTuple}
use Rattle.pol_base.proofs.MemberLemmas.{Contains-here, Contains-there, Contains-cons_cases}
use Rattle.pol_optable.specs.Operations.{Operation, IsOperation, value_at, column, image}
use Rattle.pol_optable.specs.Identities.{IsNearUnanimity}
use Rattle.pol_strong.specs.Parts.{SameAt}
use Rattle.pol_strong.specs.Families.{AreAmong, AreKnown, IsFamily, Extended, Extends, IsPreserved}
use Rattle.pol_strong.proofs.Choosing.{choose}
use Rattle.pol_strong.proofs.ImagePlaces.{column_is, image_but_one, image_place, value_at-below, IsTuple-set}
use Rattle.pol_strong.proofs.Variables.{place_of, AreAmong-itself, AreAmong-All, in_remove, remove_among, distinct_places, IsWithout, without}

-- an assignment that is kept at some variables, has the value b at v, and else differs from a at x alone
record IsNear (d n : ℕ) (Kept : List ℕ → List ℕ → Type 0) (some a : List ℕ) (v b x : ℕ) (c : List ℕ) : Type 0 where
  tuple : IsTuple d n c
  kept : Kept some c
  at_v : get_or c v 0 ≡ b
  other : (j : ℕ) → j ≢ v → j ≢ x → get_or c j 0 ≡ get_or a j 0

-- a part, and a further variable
module _ (n most : ℕ) (Kept : List ℕ → List ℕ → Type 0) (family : IsFamily most Kept)
    (vars a : List ℕ) (known : AreKnown n vars) (v : ℕ) (further : v < n) (new : ¬ Contains vars v) where
  -- one of the variables of a list among v and the part's
  known_at : (y : ℕ) → (v ≡ y) ⊎ Contains vars y → y < n
  known_at y (inl same) = rw (← same) further
  known_at y (inr later) = All-contains (λ z. z < n) vars y known later

  -- where the part without its i-th variable takes b at v, a kept part of few variables with that one has b at v too
  near_part : (d : ℕ) → Extends d n most Kept → IsTuple d n a
      → (i : ℕ) → i < length vars → (b : ℕ) → b < d → Kept (v ∷ remove vars i) (set a v b)
      → (some : List ℕ) → AreAmong some (v ∷ vars) → length some ≤ most
      → (c : List ℕ) × IsNear d n Kept some a v b (get_or vars i 0) c
  near_part d extends is i within b below kept some inside short =
      let others = without some (get_or vars i 0) in
      from others.0 others.1
    where
      from : (rest : List ℕ) → IsWithout some (get_or vars i 0) rest
          → (c : List ℕ) × IsNear d n Kept some a v b (get_or vars i 0) c
      from rest w =
          let x : ℕ = get_or vars i 0 in
          let few : length rest ≤ length some = w.short in
          let with_b : IsTuple d n (set a v b) = IsTuple-set d n a v b is below in
          let apart : v ≢ x = λ same. new (subst (Contains vars) (sym same) (Contains-get_or vars i 0 within)) in
          let narrow : AreAmong rest (v ∷ remove vars i) = λ y m.
          at y (Contains-cons_cases v y vars (inside y (w.inside y m)))
          (λ same. w.gone (subst (Contains rest) (sym same) m)) in
          let small : Kept rest (set a v b)
          = family.parts (v ∷ remove vars i) rest (set a v b) (set a v b) narrow (λ k d h. refl) kept in
          let known_rest : AreKnown n rest = λ k e m.
          known_at (get_or rest k e)
          (Contains-cons_cases v (get_or rest k e) vars (inside _ (w.inside _ (Contains-get_or rest k e m)))) in
          let more : Extended d Kept rest (set a v b) x
          = extends.more rest (set a v b) x with_b known_rest (omega arith) small (known i 0 within) w.gone in
          let c : List ℕ = set (set a v b) x more.value in (
            c,
            record {
              tuple = IsTuple-set d n (set a v b) x more.value with_b more.below;
              kept = family.parts (x ∷ rest) some c c w.back (λ k d h. refl) more.kept;
              at_v = get_or-set_other (set a v b) x v more.value 0 apart ∙ get_or-set_same a v b 0 (rw is.long further);
              other = λ j not_v not_x.
                  get_or-set_other (set a v b) x j more.value 0 not_x ∙ get_or-set_other a v j b 0 not_v;
            },
          )
        where
          at : (y : ℕ) → (v ≡ y) ⊎ Contains vars y → (get_or vars i 0 ≡ y → ⊥) → Contains (v ∷ remove vars i) y
          at y (inl same) gone = subst (Contains (v ∷ remove vars i)) same (Contains-here v (remove vars i))
          at y (inr later) gone = Contains-there v y (remove vars i) (in_remove vars i y within later gone)

  module _ (f : Operation) (op : IsOperation f) (near : IsNearUnanimity f) (extends : Extends f.domain n most Kept)
      (preserved : IsPreserved f n most Kept) (is : IsTuple f.domain n a) (distinct : AllPairs (λ x y. x ≢ y) vars)
      (room : f.arity ≤ length vars) where
    -- what the operation makes of near assignments is the part, with what it makes of their values at v
    near_image : (bs : List ℕ) → length bs ≡ f.arity → (some : List ℕ) → AreAmong some (v ∷ vars)
        → (cs : List (List ℕ)) → length cs ≡ f.arity
        → ((i : ℕ) (d : List ℕ) → i < f.arity
        → IsNear f.domain n Kept some a v (get_or bs i 0) (get_or vars i 0) (get_or cs i d))
        → SameAt some (image f n cs) (set a v (value_at f bs))
    near_image bs long some inside cs counted each p d h =
        by (get_or some p d) (Contains-cons_cases v (get_or some p d) vars
        (inside (get_or some p d) (Contains-get_or some p d h)))
      where
        column_at_v : column cs v ≡ bs
        column_at_v = column_is cs bs v (counted ∙ sym long) (λ i h. (each i [] (omega arith)).at_v)

        by : (j : ℕ) → (v ≡ j) ⊎ Contains vars j → get_or (image f n cs) j 0 ≡ get_or (set a v (value_at f bs)) j 0
        by j (inl same) =
            rw (← same) (image_place f n cs v further
            ∙ (ap (value_at f) column_at_v ∙ sym (get_or-set_same a v (value_at f bs) 0 (rw is.long further))))
        by j (inr m) =
            let q = place_of vars j 0 m in
            let apart : j ≢ v = λ same. new (subst (Contains vars) same m) in
            let below : j < n = All-contains (λ z. z < n) vars j known m in
            image_but_one f near n j (get_or a j 0) q.0 cs counted below (λ i d h. (each i d (omega arith)).tuple)
            (is.below j 0 (rw is.long below))
            (λ i k differ. (each i [] k).other j apart
            (λ same. distinct_places vars distinct q.0 i q.1 (omega arith) differ (q.2 ∙ same)))
            ∙ sym (get_or-set_other a v j (value_at f bs) 0 apart)

    -- where the part without each of its first variables extends, the part does
    extends_more : ((i : ℕ) → i < f.arity → Extended f.domain Kept (remove vars i) a v)
        → Extended f.domain Kept vars a v
    extends_more each =
        let values = choose (λ i b. (b < f.domain) × Kept (v ∷ remove vars i) (set a v b)) f.arity
        (λ i h. let e = each i h in (e.value, (e.below, e.kept))) in
        from values.0 values.1 values.2
      where
        from : (bs : List ℕ) → length bs ≡ f.arity
            → ((i d : ℕ) → i < f.arity → (get_or bs i d < f.domain) × Kept (v ∷ remove vars i)
            (set a v (get_or bs i d)))
            → Extended f.domain Kept vars a v
        from bs long good = record {
          value = value_at f bs;
          below = value_at-below f op bs (record { long = long; below = λ i d h. (good i d (omega arith)).0 });
          kept = family.small (v ∷ vars) (set a v (value_at f bs)) (λ some inside short.
              let chosen = choose (λ i c. IsNear f.domain n Kept some a v (get_or bs i 0) (get_or vars i 0) c) f.arity
              (λ i h.
              let is_good = good i 0 h in
              near_part f.domain extends is i (omega arith) (get_or bs i 0) is_good.0 is_good.1 some inside short) in
              part some inside short chosen.0 chosen.1 chosen.2);
        }
          where
            part : (some : List ℕ) → AreAmong some (v ∷ vars) → length some ≤ most → (cs : List (List ℕ))
                → length cs ≡ f.arity
                → ((i : ℕ) (d : List ℕ) → i < f.arity
                → IsNear f.domain n Kept some a v (get_or bs i 0) (get_or vars i 0) (get_or cs i d))
                → Kept some (set a v (value_at f bs))
            part some inside short cs counted near_all =
                family.parts some some (image f n cs) (set a v (value_at f bs)) (AreAmong-itself some)
                (near_image bs long some inside cs counted near_all)
                (preserved.images some cs
                (AreAmong-All (λ z. z < n) some (v ∷ vars) inside (All-cons (λ z. z < n) v vars further known))
                short counted
                (λ i d h. (near_all i d (omega arith)).tuple) (λ i d h. (near_all i d (omega arith)).kept))

module _ (f : Operation) (op : IsOperation f) (near : IsNearUnanimity f) (n most : ℕ) (size : f.arity ≡ most + 1)
    (Kept : List ℕ → List ℕ → Type 0) (family : IsFamily most Kept) (extends : Extends f.domain n most Kept)
    (preserved : IsPreserved f n most Kept) (a : List ℕ) (is : IsTuple f.domain n a) (v : ℕ) (further : v < n) where
  extends_up_to : (k : ℕ) (vars : List ℕ) → length vars ≤ k → AreKnown n vars → AllPairs (λ x y. x ≢ y) vars
      → ¬ Contains vars v → Kept vars a → Extended f.domain Kept vars a v
  extends_up_to zero vars short known distinct new kept = extends.more vars a v is known (omega arith) kept further new
  extends_up_to (suc k) vars short known distinct new kept = by (cases_lt most (length vars)) (λ i within.
      extends_up_to k (remove vars i) (omega (arith, length-remove vars i within))
      (AreAmong-All (λ z. z < n) (remove vars i) vars (remove_among vars i within) known)
      (all_pairs_remove (λ x y. x ≢ y) vars i within distinct)
      (λ m. new (remove_among vars i within v m))
      (family.parts vars (remove vars i) a a (remove_among vars i within) (λ k d h. refl) kept))
    where
      by : (most < length vars) ⊎ (length vars ≤ most)
          → ((i : ℕ) → i < length vars → Extended f.domain Kept (remove vars i) a v)
          → Extended f.domain Kept vars a v
      by (inl more) rest =
          extends_more n most Kept family vars a known v further new f op near extends preserved is distinct
          (omega arith)
          (λ i h. rest i (omega arith))
      by (inr fits) rest = extends.more vars a v is known fits kept further new

  -- each kept part extends by the variable
  pub extends_all : (vars : List ℕ) → AreKnown n vars → AllPairs (λ x y. x ≢ y) vars → ¬ Contains vars v → Kept vars a
      → Extended f.domain Kept vars a v
  extends_all vars known distinct new kept = extends_up_to (length vars) vars (omega arith) known distinct new kept
