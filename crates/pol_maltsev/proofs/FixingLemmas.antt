-- The members that begin with a front.
use Rattle.std.proofs.Common.{◌≡◌, ℕ, ◌<◌, ◌≤◌, List, [], ◌∷◌, length, length-take, take, get_or, All, Contains, arith, refl, sym, ap, ◌∙◌, ◌↔◌, ◌++◌}
use Rattle.std.specs.Prelude.{slice_index}
use Rattle.std.proofs.lemmas.List.{ext_get_or, get_or-take}
use Rattle.std.proofs.lemmas.List.Elements.{All-nil, All-cons, All-contains, All-weaker, Contains-get_or}
use Rattle.pol_base.specs.Tuples.{IsTuple}
use Rattle.pol_optable.specs.Operations.{Operation, image, value_at}
use Rattle.pol_optable.specs.Identities.{IsMaltsev}
use Rattle.pol_maltsev.specs.Representations.{IsPreserved, Begins}
use Rattle.pol_maltsev.specs.Fronts.{AreBeginners}
use Rattle.pol_maltsev.specs.Orders.{InFront, IsNatural}
use Rattle.pol_maltsev.specs.Restrictions.{IsReading, IsRestricted}
use Rattle.pol_maltsev.proofs.TupleLemmas.{value_below, value-image, length-image}
use Rattle.pol_maltsev.specs.Views.{TableView, InTable, IsSoundTable}
use Rattle.pol_maltsev.proofs.SetLemmas.{set_preserved}
use Rattle.pol_maltsev.proofs.RestrictTables.{same_preserved}

-- the value that a member has at a place of the front
pub begins_at : (T : List ℕ → Type 0) (front t : List ℕ) (j : ℕ) → Begins T front t → j < length front → slice_index t j ≡ slice_index front j
begins_at T front t j h low = sym (get_or-take (length front) t j 0 low) ∙ ap (λ (xs : List ℕ). get_or xs j 0) h.begins

-- a member that has these values begins with the front
pub begins_of_values : (T : List ℕ → Type 0) (n : ℕ) (front t : List ℕ) → T t → length t ≡ n → length front ≤ n → ((j : ℕ) → j < length front → slice_index t j ≡ slice_index front j) → Begins T front t
begins_of_values T n front t in_t long few same = record {
  inside = in_t;
  begins = ext_get_or 0 (take (length front) t) front many (λ j low. let within : j < length front = omega (arith, low, many) in get_or-take (length front) t j 0 within ∙ same j within);
}
  where
    many : length (take (length front) t) ≡ length front
    many = omega (arith, length-take (length front) t, long, few)

-- in the natural order it reads the front at the first places
pub reading_of_begins : (T : List ℕ → Type 0) (n : ℕ) (ord front t : List ℕ) → IsNatural n ord → length front ≤ n → Begins T front t → IsReading T ord front (length front) t
reading_of_begins T n ord front t natural few h = record {
  inside = h.inside;
  reads = λ i low. rw (natural.itself i (omega (arith, low, few))) (begins_at T front t i h low);
}

pub begins_of_reading : (T : List ℕ → Type 0) (n : ℕ) (ord front t : List ℕ) → IsNatural n ord → length front ≤ n → length t ≡ n → IsReading T ord front (length front) t → Begins T front t
begins_of_reading T n ord front t natural few long h =
    begins_of_values T n front t h.inside long few (λ j low. rw (natural.itself j (omega (arith, low, few))) at (h.reads j low))

-- the members that agree with beginners at the first places are those that begin with the front
pub beginners_restricted : (T : List ℕ → Type 0) (n : ℕ) (ord front : List ℕ) (found : List (List ℕ)) → IsNatural n ord → length front ≤ n → ((t : List ℕ) → T t → length t ≡ n) → AreBeginners T front found →
    (t : List ℕ) → IsRestricted T found ord (length front) t ↔ Begins T front t
beginners_restricted T n ord front found natural few long beginners t = (
  λ h. begins_of_values T n front t h.inside (long t h.inside) few (λ j low.
      sym (h.covered.same j (record { index = j; early = low; place = natural.itself j (omega (arith, low, few)) }))
      ∙ begins_at T front h.covered.member j (All-contains (Begins T front) found h.covered.member beginners.begin h.covered.listed) low),
  λ h. let there : 0 < length found = beginners.some t h in record {
    inside = h.inside;
    covered = record {
      member = get_or found 0 [];
      listed = Contains-get_or found 0 [] there;
      same = λ j m. agrees j m h (beginners.begin 0 [] there);
    };
  },
)
  where
    agrees : (j : ℕ) → InFront ord (length front) j → Begins T front t → Begins T front (get_or found 0 []) → slice_index (get_or found 0 []) j ≡ slice_index t j
    agrees j m h g =
        let low : j < length front = rw (sym (natural.itself m.index (omega (arith, m.early, few))) ∙ m.place) at m.early in
        begins_at T front (get_or found 0 []) j g low ∙ sym (begins_at T front t j h low)

-- a Mal'tsev operation leaves a value as it is
same_values : (f : Operation) (x : ℕ) → IsMaltsev f → x < f.domain → value_at f (x ∷ x ∷ x ∷ []) ≡ x
same_values f x mal low = mal.right x x low low

-- the members that begin with the front are preserved
pub begins_preserved : (f : Operation) (n : ℕ) (T : List ℕ → Type 0) (front : List ℕ) → IsMaltsev f → IsPreserved f n T → length front ≤ n → IsPreserved f n (Begins T front)
begins_preserved f n T front mal kept few = record {
  tuples = λ t h. kept.tuples t h.inside;
  keeps = λ r s t hr hs ht.
      begins_of_values T n front (image f n (r ∷ s ∷ t ∷ [])) (kept.keeps r s t hr.inside hs.inside ht.inside) (length-image f n (r ∷ s ∷ t ∷ [])) few (λ j low. at r s t hr hs ht j low);
}
  where
    at : (r s t : List ℕ) → Begins T front r → Begins T front s → Begins T front t → (j : ℕ) → j < length front → slice_index (image f n (r ∷ s ∷ t ∷ [])) j ≡ slice_index front j
    at r s t hr hs ht j low =
        let small : slice_index front j < f.domain = rw (begins_at T front r j hr low) at (value_below f.domain n r j (kept.tuples r hr.inside) (omega (arith, low, few))) in
        value-image f n (r ∷ s ∷ t ∷ []) j (omega (arith, low, few))
        ∙ rw (begins_at T front r j hr low, begins_at T front s j hs low, begins_at T front t j ht low) (same_values f (slice_index front j) mal small)

-- beginners are members
pub beginners_inside : (T : List ℕ → Type 0) (front : List ℕ) (found : List (List ℕ)) → AreBeginners T front found → All T found
beginners_inside T front found beginners = All-weaker (Begins T front) T (λ t h. h.inside) found beginners.begin

-- one beginner
pub beginner_one : (T : List ℕ → Type 0) (front m : List ℕ) → Begins T front m → AreBeginners T front (m ∷ [])
beginner_one T front m h = record { begin = All-cons (Begins T front) m [] h (All-nil (Begins T front)); some = λ t g. omega arith }

-- or none
pub beginner_none : (T : List ℕ → Type 0) (front : List ℕ) → ((t : List ℕ) → ¬ Begins T front t) → AreBeginners T front []
beginner_none T front none = record { begin = All-nil (Begins T front); some = λ t g. absurd (none t g) }

-- sets with the same members have the same beginners
pub begins_same : (T U : List ℕ → Type 0) (front : List ℕ) → ((t : List ℕ) → T t → U t) → (t : List ℕ) → Begins T front t → Begins U front t
begins_same T U front same t h = record { inside = same t h.inside; begins = h.begins }

-- the members that agree with beginners at the first places are preserved
pub fixed_preserved : (f : Operation) (v : TableView) (front : List ℕ) (found : List (List ℕ)) → IsSoundTable f v → IsNatural v.width v.order → length front ≤ v.width → AreBeginners (InTable f v) front found →
    IsPreserved f v.width (IsRestricted (InTable f v) found v.order (length front))
fixed_preserved f v front found is natural few beginners =
    let kept : IsPreserved f v.width (InTable f v) = set_preserved f v is.operation is.same_domain is.view in
    same_preserved f v.width (IsRestricted (InTable f v) found v.order (length front)) (Begins (InTable f v) front)
    (beginners_restricted (InTable f v) v.width v.order front found natural few (λ t h. (kept.tuples t h).long) beginners) (begins_preserved f v.width (InTable f v) front is.maltsev kept few)

-- a table of these stands for the members that begin with the front
pub fixed_set : (f : Operation) (v new : TableView) (front : List ℕ) (found : List (List ℕ)) → IsSoundTable f v → IsNatural v.width v.order → length front ≤ v.width → AreBeginners (InTable f v) front found →
    ((t : List ℕ) → InTable f new t ↔ IsRestricted (InTable f v) found v.order (length front) t) → (t : List ℕ) → InTable f new t ↔ Begins (InTable f v) front t
fixed_set f v new front found is natural few beginners set t = (λ h. (begins t).0 ((set t).0 h), λ h. (set t).1 ((begins t).1 h))
  where
    begins : (u : List ℕ) → IsRestricted (InTable f v) found v.order (length front) u ↔ Begins (InTable f v) front u
    begins = beginners_restricted (InTable f v) v.width v.order front found natural few (λ u h. ((set_preserved f v is.operation is.same_domain is.view).tuples u h).long) beginners
