-- The search for the least masks of which a set function makes no row.
use Rattle.std.proofs.Common.{◌≡◌, ◌≢◌, ℕ, ◌+◌, ◌-◌, ◌*◌, ◌^◌, ◌<◌, ◌≤◌, ◌⊎◌, ◌↔◌, inl, inr, List, [], ◌∷◌, ◌++◌, length, take, drop, set, get_or, All, sym, ap, ◌∙◌, subst, arith, refl, append_assoc}
use Rattle.std.specs.Prelude.{IsTrue, Bool, true, Option, Some, None, IfSome, IfNone, IsNone}
use Rattle.std.proofs.Math.Nat.{mul-le-mul_right}
use Rattle.std.proofs.Math.Seq.{get_or-append_seam}
use Rattle.std.proofs.lemmas.Bool.{cases_eq, cases_lt, true≢false}
use Rattle.std.proofs.lemmas.List.{length-append, length_push, get_or_push, append-nil, take_all, take_at, take_more_set, take-take, drop_more, get_or-take}
use Rattle.std.proofs.lemmas.List.Elements.{All-head, All-tail, All-take}
use Rattle.pol_base.specs.Least.{IsLeast}
use Rattle.pol_base.specs.Masks.{IsMask}
use Rattle.pol_base.specs.Tuples.{IsBefore}
use Rattle.pol_relation.specs.Relations.{RelationView, IsRelation}
use Rattle.pol_optable.specs.SetFunctions.{SetFunctionView, PreservesSets}
use Rattle.pol_optable.specs.SetBreaks.{IsBrokenSets, GoesOnBroken}
use Rattle.pol_optable.proofs.ProjectionLemmas.{projection_long, projection_masks, preserves_without_breaks, break_refutes}

-- ---- the masks of a place are tried one after another

module _ (g : SetFunctionView) (r : RelationView) (front : List ℕ) (bound : Bool) (first : ℕ) (behind : List ℕ) where
  -- none of the masks below one go on to broken sets
  abbrev pub Tried : ℕ → Type 0
  Tried top = (mask : ℕ) (rest : List ℕ) → mask < top → GoesOnBroken g r front bound (first ∷ behind) (mask ∷ rest) → ⊥

  pub tried_none :
      (top : ℕ)
      → length front < r.arity
      → IsRelation r
      → ((mask : ℕ) → mask < top → (mask ≡ 0) ⊎ (IsTrue bound × (mask < first)))
      → Tried top
  tried_none top place is before mask rest low goes =
      elim (before mask low) [
        | inl zero_is ↦ (let masks = projection_masks r (front ++ mask ∷ rest) goes.broken.is_projection is.tuples in
            let here : IsMask r.domain (get_or (front ++ mask ∷ rest) (length front) 0) =
            masks (length front) 0 (omega (arith, length-append front (mask ∷ rest))) in
            let some : 0 < get_or (front ++ mask ∷ rest) (length front) 0 = here.some in
            omega (arith, some, zero_is, get_or-append_seam front mask rest 0))
        | inr both ↦ goes.behind both.0 (inl both.1)
      ]

  pub tried_dropped :
      (mask : ℕ)
      → Tried mask
      → ((rest : List ℕ) → IsBrokenSets g r ((front ++ mask ∷ []) ++ rest) → ⊥)
      → Tried (mask + 1)
  tried_dropped mask before none other rest low goes = by (cases_eq other mask)
    where
      by : (other ≡ mask) ⊎ (other ≢ mask) → ⊥
      by (inl same) =
          let whole : front ++ other ∷ rest ≡ (front ++ mask ∷ []) ++ rest =
          ap (λ m. front ++ m ∷ rest) same ∙ sym (append_assoc front (mask ∷ []) rest) in
          none rest (subst (IsBrokenSets g r) whole goes.broken)
      by (inr apart) = before other rest (omega (arith, low, apart)) goes

  module _ (mask : ℕ) (next : Bool) (is_next : IsTrue next ↔ (IsTrue bound × (mask ≡ first))) where
    pub split_front : (rest : List ℕ) → (front ++ mask ∷ []) ++ rest ≡ front ++ mask ∷ rest
    split_front rest = append_assoc front (mask ∷ []) rest

    goes_below : (rest : List ℕ)
        → GoesOnBroken g r front bound (first ∷ behind) (mask ∷ rest)
        → GoesOnBroken g r (front ++ mask ∷ []) next behind rest
    goes_below rest goes = record {
      broken = subst (IsBrokenSets g r) (sym (split_front rest)) goes.broken;
      behind = λ is before. (let both = is_next.0 is in goes.behind both.0 (inr (both.1, before)));
    }

    pub tried_more :
        Tried mask
        → ((rest : List ℕ) → GoesOnBroken g r (front ++ mask ∷ []) next behind rest → ⊥)
        → Tried (mask + 1)
    tried_more before here other rest low goes = by (cases_eq other mask)
      where
        by : (other ≡ mask) ⊎ (other ≢ mask) → ⊥
        by (inl same) =
            here rest (goes_below rest (subst (λ m. GoesOnBroken g r front bound (first ∷ behind) (m ∷ rest)) same goes))
        by (inr apart) = before other rest (omega (arith, low, apart)) goes

    pub found_here :
        (rest : List ℕ)
        → Tried mask
        → (IsTrue bound → first ≤ mask)
        → IsLeast (GoesOnBroken g r (front ++ mask ∷ []) next behind) rest
        → IsLeast (GoesOnBroken g r front bound (first ∷ behind)) (mask ∷ rest)
    found_here rest before from least = record {
      holds = record {
        broken = subst (IsBrokenSets g r) (split_front rest) least.holds.broken;
        behind = λ is lower. elim lower [
          | inl less ↦ (let high = from is in omega (arith, less, high))
          | inr both ↦ least.holds.behind (is_next.1 (is, both.0)) both.1
        ];
      };
      first = firsts;
    }
      where
        firsts : (ys : List ℕ) → length ys ≡ length (mask ∷ rest) → GoesOnBroken g r front bound (first ∷ behind) ys → IsBefore ys (mask ∷ rest) → ⊥
        firsts [] long goes lower = lower
        firsts (y ∷ ys) long goes lower =
            elim lower [
              | inl less ↦ before y ys less goes
              | inr both ↦ least.first ys (omega (arith, long))
                  (goes_below ys (subst (λ m. GoesOnBroken g r front bound (first ∷ behind) (m ∷ ys)) both.0 goes)) both.1
            ]

  -- none of all masks
  pub all_tried :
      (top : ℕ)
      → length front < r.arity
      → IsRelation r
      → 2 ^ r.domain ≤ top
      → Tried top
      → (other : List ℕ)
      → GoesOnBroken g r front bound (first ∷ behind) other
      → ⊥
  all_tried top place is high tried [] goes =
      let long = projection_long r (front ++ []) goes.broken.is_projection in
      omega (arith, ap length (append-nil front), long, place)
  all_tried top place is high tried (mask ∷ rest) goes =
      let masks = projection_masks r (front ++ mask ∷ rest) goes.broken.is_projection is.tuples in
      let here : IsMask r.domain (get_or (front ++ mask ∷ rest) (length front) 0) =
      masks (length front) 0 (omega (arith, length-append front (mask ∷ rest))) in
      let below : get_or (front ++ mask ∷ rest) (length front) 0 < 2 ^ r.domain = here.below in
      tried mask rest (omega (arith, below, high, get_or-append_seam front mask rest 0)) goes

-- at the last place broken sets with one mask begin with nothing more
pub last_broken :
    (g : SetFunctionView) (r : RelationView) (masks : List ℕ)
    → length masks ≡ r.arity
    → (IsBrokenSets g r masks → ⊥)
    → (rest : List ℕ)
    → IsBrokenSets g r (masks ++ rest)
    → ⊥
last_broken g r masks whole kept [] broken = kept (subst (IsBrokenSets g r) (append-nil masks) broken)
last_broken g r masks whole kept (y ∷ ys) broken =
    let all = projection_long r (masks ++ y ∷ ys) broken.is_projection in
    omega (arith, all, whole, length-append masks (y ∷ ys))

-- and the first mask there that is broken is the least
pub found_last :
    (g : SetFunctionView) (r : RelationView) (front : List ℕ) (bound : Bool) (first mask : ℕ)
    → Tried g r front bound first [] mask
    → (IsTrue bound → first ≤ mask)
    → IsBrokenSets g r (front ++ mask ∷ [])
    → IsLeast (GoesOnBroken g r front bound (first ∷ [])) (mask ∷ [])
found_last g r front bound first mask before above broken = record {
  holds = record {
    broken = broken;
    behind = λ is lower. elim lower [ inl less ↦ (let high = above is in omega (arith, less, high)) | inr both ↦ both.1 ];
  };
  first = firsts;
}
  where
    firsts : (ys : List ℕ) → length ys ≡ 1 → GoesOnBroken g r front bound (first ∷ []) ys → IsBefore ys (mask ∷ []) → ⊥
    firsts [] long goes lower = lower
    firsts (y ∷ []) long goes lower = elim lower [ inl less ↦ before y [] less goes | inr both ↦ both.1 ]
    firsts (y ∷ z ∷ ys) long goes lower = omega (arith, long)

-- ---- the lists of the search

-- what is behind the first of some masks
abbrev pub rest_of : List ℕ → List ℕ
rest_of from = take (length from - 1) (drop 1 from)

pub split_from : (from : List ℕ) → 1 ≤ length from → get_or from 0 0 ∷ rest_of from ≡ from
split_from [] some = absurd (omega (arith, some))
split_from (first ∷ behind) some = ap (λ rest. first ∷ rest) (take_all (length (first ∷ behind) - 1) behind (omega arith))

pub rest_long : (from : List ℕ) → 1 ≤ length from → length (rest_of from) + 1 ≡ length from
rest_long from some = omega (arith, ap length (split_from from some))

-- the masks up to a place, where that place is written
pub chosen_front :
    (start masks : List ℕ) (place mask : ℕ)
    → place < length masks
    → take place masks ≡ take place start
    → take (place + 1) (set masks place mask) ≡ take place start ++ mask ∷ []
chosen_front start masks place mask inside kept =
    take_more_set masks place mask inside ∙ ap (λ front. front ++ mask ∷ []) kept

-- and those before it
pub chosen_start :
    (start masks : List ℕ) (place mask : ℕ)
    → place < length masks
    → length (take place start) ≡ place
    → take place masks ≡ take place start
    → take (length (take (place + 1) (set masks place mask)) - 1) (take (place + 1) (set masks place mask)) ≡ take place start
chosen_start start masks place mask inside long kept =
    let front = take place start in
    let chosen = chosen_front start masks place mask inside kept in
    rw chosen (take_at front (mask ∷ []) (length (front ++ mask ∷ []) - 1) (omega (arith, length_push front mask)))

pub kept_front :
    (start masks : List ℕ) (place mask : ℕ)
    → length (take place start) ≡ place
    → take (place + 1) masks ≡ take place start ++ mask ∷ []
    → take place masks ≡ take place start
kept_front start masks place mask long more =
    sym (take-take place (place + 1) masks (omega arith))
    ∙ (ap (take place) more ∙ take_at (take place start) (mask ∷ []) place long)

module _ (g : SetFunctionView) (r : RelationView) (front from : List ℕ) (bound : Bool) (place : ℕ)
    (long : length front ≡ place)
    (some : 1 ≤ length from) where
  -- a mask was found, and those of the places behind it
  pub found_behind :
      (mask : ℕ) (next : Bool) (masks : List ℕ)
      → (IsTrue next ↔ (IsTrue bound × (mask ≡ get_or from 0 0)))
      → place < length masks
      → take (place + 1) masks ≡ front ++ mask ∷ []
      → Tried g r front bound (get_or from 0 0) (rest_of from) mask
      → (IsTrue bound → get_or from 0 0 ≤ mask)
      → IsLeast (GoesOnBroken g r (front ++ mask ∷ []) next (rest_of from)) (drop (place + 1) masks)
      → IsLeast (GoesOnBroken g r front bound from) (drop place masks)
  found_behind mask next masks is_next inside kept tried above least =
      let here : get_or masks place 0 ≡ mask =
      sym (get_or-take (place + 1) masks place 0 (omega arith))
      ∙ (ap (λ ms. get_or ms place 0) kept ∙ get_or_push front mask 0 place long) in
      let split : drop place masks ≡ mask ∷ drop (place + 1) masks =
      drop_more masks place 0 inside ∙ ap (λ m. m ∷ drop (place + 1) masks) here in
      let found = found_here g r front bound (get_or from 0 0) (rest_of from) mask next is_next (drop (place + 1) masks) tried above least in
      subst (λ ms. IsLeast (GoesOnBroken g r front bound from) ms) (sym split)
      (subst (λ fs. IsLeast (GoesOnBroken g r front bound fs) (mask ∷ drop (place + 1) masks)) (split_from from some) found)

  -- all masks of a place were tried
  pub none_behind :
      (top : ℕ)
      → length front < r.arity
      → IsRelation r
      → 2 ^ r.domain ≤ top
      → Tried g r front bound (get_or from 0 0) (rest_of from) top
      → (other : List ℕ)
      → GoesOnBroken g r front bound from other
      → ⊥
  none_behind top room is high tried other goes =
      all_tried g r front bound (get_or from 0 0) (rest_of from) top room is high tried other
      (subst (λ fs. GoesOnBroken g r front bound fs other) (sym (split_from from some)) goes)

-- ---- the answers

-- room for two sets of words at each of few places
pub room_left : (places words room : ℕ) → places ≤ 6 → words * 13 ≤ room → places * (words * 2) ≤ room - words
room_left places words room few enough =
    let most : places * (words * 2) ≤ 6 * (words * 2) = mul-le-mul_right (words * 2) few in
    omega (arith, most, enough)

before_or_not : (xs ys : List ℕ) → IsBefore xs ys ⊎ (IsBefore xs ys → ⊥)
before_or_not [] ys = inr (λ lower. lower)
before_or_not (x ∷ xs) [] = inr (λ lower. lower)
before_or_not (x ∷ xs) (y ∷ ys) = by (cases_lt x y) (cases_eq x y) (before_or_not xs ys)
  where
    by : (x < y) ⊎ (y ≤ x) → (x ≡ y) ⊎ (x ≢ y) → IsBefore xs ys ⊎ (IsBefore xs ys → ⊥) → IsBefore (x ∷ xs) (y ∷ ys) ⊎ (IsBefore (x ∷ xs) (y ∷ ys) → ⊥)
    by (inl less) equal rest = inl (inl less)
    by (inr more) (inl same) (inl lower) = inl (inr (same, lower))
    by (inr more) (inl same) (inr not) = inr (λ lower. elim lower [ inl less ↦ omega (arith, less, more) | inr both ↦ not both.1 ])
    by (inr more) (inr apart) rest = inr (λ lower. elim lower [ inl less ↦ omega (arith, less, more) | inr both ↦ apart both.0 ])

-- where none is found from the given masks on, each one comes before these
pub all_before :
    (g : SetFunctionView) (r : RelationView) (from : List ℕ)
    → ((other : List ℕ) → GoesOnBroken g r [] true from other → ⊥)
    → (other : List ℕ)
    → IsBrokenSets g r other
    → IsBefore other from
all_before g r from none other broken =
    elim (before_or_not other from) [
      | inl lower ↦ lower
      | inr not ↦ absurd (none other (record { broken = broken; behind = λ _. not }))
    ]

-- nothing comes before zeros
pub none_before_zeros : (xs zeros : List ℕ) → All (λ z. z ≡ 0) zeros → IsBefore xs zeros → ⊥
none_before_zeros [] zeros all lower = lower
none_before_zeros (x ∷ xs) [] all lower = lower
none_before_zeros (x ∷ xs) (z ∷ zeros) all lower =
    elim lower [
      | inl less ↦ (let none : z ≡ 0 = All-head (λ v. v ≡ 0) z zeros all in omega (arith, less, none))
      | inr both ↦ none_before_zeros xs zeros (All-tail (λ v. v ≡ 0) z zeros all) both.1
    ]

-- the answer from the first masks on is none exactly where the set function preserves the relation
pub none_preserves_sets :
    (g : SetFunctionView) (r : RelationView) (answer : Option (List ℕ)) (from : List ℕ)
    → All (λ z. z ≡ 0) from
    → IfSome answer (λ masks. IsBrokenSets g r (take r.arity masks))
    → IfNone answer ((other : List ℕ) → IsBrokenSets g r other → IsBefore other (take r.arity from))
    → IsNone answer ↔ PreservesSets g r
none_preserves_sets g r None from zeros some none = (
  λ _. preserves_without_breaks g r (λ other broken.
      none_before_zeros other (take r.arity from) (All-take (λ z. z ≡ 0) r.arity from zeros) (none other broken)),
  λ _. refl,
)
none_preserves_sets g r (Some masks) from zeros some none = (
  λ no. absurd (true≢false no),
  λ preserves. absurd (break_refutes g r (take r.arity masks) some preserves),
)
