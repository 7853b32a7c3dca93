-- Whether a list is among lists, and at which place it is found.
use Rattle.std.proofs.Common.{◌≡◌, ℕ, false, List, [], Contains, suc, ◌+◌, ◌∷◌, Option, Some, None, refl, subst, arith, option_map, Bool, true, cond, ◌<◌, length, sym, ◌∙◌, ◌≢◌, zero, get_or, AllPairs, ap, map}
use Rattle.std.specs.Prelude.{IfSome, IfNone, is_some}
use Rattle.std.specs.Bool.{Decides}
use Rattle.std.proofs.lemmas.Bool.{false_from_ne_true}
use Rattle.std.proofs.lemmas.Bool.Decides.{not_from_Decides, Decides-by_or, Decides-eqb}
use Rattle.std.proofs.lemmas.List.{length-map, get_or-map, get_or_default}
use Rattle.std.proofs.lemmas.List.Elements.{Decides-contains}
use Rattle.std.proofs.lemmas.Slice.Eq.{slice_eq-Decides}
use Rattle.pol_base.specs.Lists.{is_same, is_among, place_in}
use Rattle.pol_base.proofs.MemberLemmas.{AllPairs-tail, Contains-here, Contains-there}

pub is_same-decides : (xs ys : List ℕ) → Decides (is_same xs ys) (xs ≡ ys)
is_same-decides xs ys = slice_eq-Decides Decides-eqb xs ys (is_same xs ys) refl

pub other-is_same : (xs ys : List ℕ) → xs ≢ ys → is_same xs ys ≡ false
other-is_same xs ys other = false_from_ne_true (is_same xs ys) (λ e. other ((is_same-decides xs ys).0 e))

pub same-is_same : (xs : List ℕ) → is_same xs xs ≡ true
same-is_same xs = (is_same-decides xs xs).1 refl

pub is_among-decides : (rows : List (List ℕ)) (t : List ℕ) → Decides (is_among rows t) (Contains rows t)
is_among-decides rows t =
    Decides-contains rows t (is_among rows t) (Decides-by_or (λ row. is_same row t) (λ row. row ≡ t) (λ some. is_among some t) (λ row. is_same-decides row t) refl (λ _ _. refl) rows)

-- what is not among the names
pub absent_name : (names : List (List ℕ)) (name : List ℕ) → is_among names name ≡ false → Contains names name → ⊥
absent_name names name = not_from_Decides (is_among names name) (is_among-decides names name)

pub other_name : (names : List (List ℕ)) (name : List ℕ) → (Contains names name → ⊥) → is_among names name ≡ false
other_name names name absent = false_from_ne_true (is_among names name) (λ e. absent ((is_among-decides names name).0 e))

-- the tuple stands at the place
pub record IsPlaceOf (t : List ℕ) (rows : List (List ℕ)) (i : ℕ) : Type 0 where
  pub inside : i < length rows
  pub found : get_or rows i t ≡ t

place_behind : (ys xs : List ℕ) (lists : List (List ℕ)) (place : Option ℕ) (i : ℕ) → ((k : ℕ) → place ≡ Some k → IsPlaceOf xs lists k) → option_map (λ k. k + 1) place ≡ Some i → IsPlaceOf xs (ys ∷ lists) i
place_behind ys xs lists None i found e = cc
place_behind ys xs lists (Some k) i found e =
    let here = found k refl in
    let next : k + 1 ≡ i = cc in
    let same : suc k ≡ i = omega (arith, next) in
    subst (IsPlaceOf xs (ys ∷ lists)) same (record { inside = omega (arith, here.inside); found = here.found })

-- the list stands at the place that was found
pub place_in-found : (lists : List (List ℕ)) (xs : List ℕ) (i : ℕ) → place_in lists xs ≡ Some i → IsPlaceOf xs lists i
place_in-found [] xs i e = cc
place_in-found (ys ∷ lists) xs i e = by_test (is_same ys xs) (is_same-decides ys xs) (λ k h. place_in-found lists xs k h) e
  where
    by_test : (t : Bool) → Decides t (ys ≡ xs) → ((k : ℕ) → place_in lists xs ≡ Some k → IsPlaceOf xs lists k) → cond t (Some 0) (option_map (λ k. k + 1) (place_in lists xs)) ≡ Some i → IsPlaceOf xs (ys ∷ lists) i
    by_test true decides later h =
        let first : 0 ≡ i = cc in
        subst (IsPlaceOf xs (ys ∷ lists)) first (record { inside = omega arith; found = decides.0 refl })
    by_test false decides later h = place_behind ys xs lists (place_in lists xs) i later h

-- a list stands at its place among distinct lists
pub place_in-distinct : (lists : List (List ℕ)) (i : ℕ) (fallback : List ℕ) → AllPairs (λ xs ys. xs ≢ ys) lists → i < length lists → place_in lists (get_or lists i fallback) ≡ Some i
place_in-distinct [] i fallback distinct inside = absurd (omega arith)
place_in-distinct (xs ∷ lists) zero fallback distinct inside = rw (same-is_same xs) refl
place_in-distinct (xs ∷ lists) (suc i) fallback distinct inside =
    let rest = place_in-distinct lists i fallback (AllPairs-tail (λ ys zs. ys ≢ zs) xs lists distinct) (omega arith) in
    let other = other-is_same xs (get_or lists i fallback) (distinct 0 (suc i) fallback (omega arith) inside) in
    let next : i + 1 ≡ suc i = omega arith in
    rw (other, rest) (ap (λ n. Some n) next)

pub AllPairs-map : {X : Type 0} (f : X → List ℕ) (xs : List X) (x : X) → AllPairs (λ y z. f y ≢ f z) xs → AllPairs (λ y z. y ≢ z) (map f xs)
AllPairs-map f xs x distinct = λ i j d less inside same.
    let j_inside : j < length xs = omega (arith, length-map xs f) in
    let i_inside : i < length xs = omega arith in
    distinct i j x less j_inside (sym (get_or-map f xs i x d i_inside) ∙ (same ∙ get_or-map f xs j x d j_inside))

-- a look-up among distinct names
pub record IsLookup (names : List (List ℕ)) (name : List ℕ) (found : Option ℕ) : Type 0 where
  pub known : IfSome found (λ i. i < length names)
  pub same : IfSome found (λ i. get_or names i [] ≡ name)
  pub absent : IfNone found (Contains names name → ⊥)

-- a name is found where it is among the names
pub is_some-lookup : (names : List (List ℕ)) (name : List ℕ) (found : Option ℕ) → IsLookup names name found → is_some found ≡ is_among names name
is_some-lookup names name (Some i) lookup = sym ((is_among-decides names name).1 (i, lookup.known, get_or_default names i name [] lookup.known ∙ lookup.same))
is_some-lookup names name None lookup = sym (other_name names name lookup.absent)

-- what is not there has no place
none_if_absent : (names : List (List ℕ)) (name : List ℕ) → (Contains names name → ⊥) → None ≡ place_in names name
none_if_absent [] name absent = refl
none_if_absent (first ∷ names) name absent =
    let other = other-is_same first name (λ same. absent (subst (Contains (first ∷ names)) same (Contains-here first names))) in
    let rest = none_if_absent names name (λ inside. absent (Contains-there first name names inside)) in
    rw (other, ← rest) refl

-- among distinct names the place that is found is the first
pub lookup-place_in : (names : List (List ℕ)) (name : List ℕ) (found : Option ℕ) → AllPairs (λ xs ys. xs ≢ ys) names → IsLookup names name found → found ≡ place_in names name
lookup-place_in names name (Some i) distinct lookup = sym (ap (place_in names) (sym lookup.same) ∙ place_in-distinct names i [] distinct lookup.known)
lookup-place_in names name None distinct lookup = none_if_absent names name lookup.absent
