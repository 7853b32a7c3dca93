-- The variables of cells, numbered a cell at a time.
use Rattle.std.proofs.Common.{◌≡◌, ℕ, ◌+◌, ◌<◌, ◌≤◌, arith, ◌∙◌, ap, refl, List, [], ◌∷◌, get_or, length, inl, inr, ◌⊎◌}
use Rattle.std.specs.Prelude.{◌++◌, ◌≢◌}
use Rattle.std.proofs.lemmas.List.{get_or_push, get_or_append_left, length_push}
use Rattle.std.proofs.lemmas.List.Elements.{All-push, All-weaker}
use Rattle.std.proofs.lemmas.Bool.{cases_eq}
use Rattle.pol_csp.specs.Variables.{IsFirstCell, AreVariables, AreTies, AreTied, IsNumbered}

-- a first cell stays first where a cell comes behind
first_kept : (variables : List ℕ) (w v cell : ℕ)
    → IsFirstCell variables v cell
    → IsFirstCell (variables ++ w ∷ []) v cell
first_kept variables w v cell first = record {
  inside = (let h : cell < length variables = first.inside in omega (arith, length_push variables w));
  here = get_or_append_left variables (w ∷ []) 0 cell first.inside ∙ first.here;
  lower = λ k h.
      let i : cell < length variables = first.inside in
      rw (get_or_append_left variables (w ∷ []) 0 k (omega arith)) (first.lower k h);
}

-- a cell that is tied to a lower one
pub numbered_tied : (ties : List ℕ) (count : ℕ) (firsts variables : List ℕ)
    → AreTies ties
    → IsNumbered ties count firsts variables
    → count < length ties
    → get_or ties count 0 < count
    → IsNumbered ties (count + 1) firsts (variables ++ get_or variables (get_or ties count 0) 0 ∷ [])
numbered_tied ties count firsts variables ordered numbered inside lower = record {
  long = length_push variables w ∙ ap (λ n. n + 1) numbered.long;
  variables_are = record {
    below = All-push (λ v. v < length firsts) variables w are.below
        (are.below (get_or ties count 0) 0 (omega (arith, numbered.long)));
    first = λ v h. first_kept variables w v (get_or firsts v 0) (are.first v h);
  };
  few = (let h : length firsts ≤ count = numbered.few in omega arith);
  shared = shared;
  one = one;
}
  where
    are : AreVariables firsts variables
    are = numbered.variables_are

    w : ℕ
    w = get_or variables (get_or ties count 0) 0

    shared : (c : ℕ)
        → c < count + 1
        → get_or (variables ++ w ∷ []) c 0 ≡ get_or (variables ++ w ∷ []) (get_or ties c 0) 0
    shared c h = by (cases_eq c count)
      where
        by : (c ≡ count) ⊎ (c ≢ count)
            → get_or (variables ++ w ∷ []) c 0 ≡ get_or (variables ++ w ∷ []) (get_or ties c 0) 0
        by (inl e) = rw (
          e,
          get_or_push variables w 0 count numbered.long,
          get_or_append_left variables (w ∷ []) 0 (get_or ties count 0) (omega (arith, numbered.long)),
        ) refl
        by (inr ne) =
            let behind : get_or ties c 0 ≤ c = ordered c (omega arith) in
            rw (
              get_or_append_left variables (w ∷ []) 0 c (omega (arith, numbered.long)),
              get_or_append_left variables (w ∷ []) 0 (get_or ties c 0) (omega (arith, numbered.long)),
            ) (numbered.shared c (omega arith))

    one : (xs : List ℕ)
        → AreTied ties xs
        → (c : ℕ)
        → c < count + 1
        → get_or xs c 0 ≡ get_or xs (get_or firsts (get_or (variables ++ w ∷ []) c 0) 0) 0
    one xs tied c h = by (cases_eq c count)
      where
        by : (c ≡ count) ⊎ (c ≢ count)
            → get_or xs c 0 ≡ get_or xs (get_or firsts (get_or (variables ++ w ∷ []) c 0) 0) 0
        by (inl e) =
            rw (e, get_or_push variables w 0 count numbered.long)
            (tied count inside ∙ numbered.one xs tied (get_or ties count 0) lower)
        by (inr ne) = rw (get_or_append_left variables (w ∷ []) 0 c (omega (arith, numbered.long)))
            (numbered.one xs tied c (omega arith))

itself : (tie cell : ℕ) → tie ≤ cell → cell ≤ tie → tie ≡ cell
itself tie cell le free = omega arith

-- a cell that is not tied
pub numbered_free : (ties : List ℕ) (count : ℕ) (firsts variables : List ℕ)
    → AreTies ties
    → IsNumbered ties count firsts variables
    → count < length ties
    → count ≤ get_or ties count 0
    → IsNumbered ties (count + 1) (firsts ++ count ∷ []) (variables ++ length firsts ∷ [])
numbered_free ties count firsts variables ordered numbered inside free = record {
  long = length_push variables m ∙ ap (λ n. n + 1) numbered.long;
  variables_are = record {
    below = rw (length_push firsts count) (All-push (λ v. v < m + 1) variables m
        (All-weaker (λ v. v < m) (λ v. v < m + 1) (λ v h. omega arith) variables are.below) (omega arith));
    first = first;
  };
  few = (let h : length firsts ≤ count = numbered.few in omega (arith, length_push firsts count));
  shared = shared;
  one = one;
}
  where
    m : ℕ
    m = length firsts

    are : AreVariables firsts variables
    are = numbered.variables_are

    shared : (c : ℕ)
        → c < count + 1
        → get_or (variables ++ m ∷ []) c 0 ≡ get_or (variables ++ m ∷ []) (get_or ties c 0) 0
    shared c h = by (cases_eq c count)
      where
        by : (c ≡ count) ⊎ (c ≢ count)
            → get_or (variables ++ m ∷ []) c 0 ≡ get_or (variables ++ m ∷ []) (get_or ties c 0) 0
        by (inl e) =
            let same : get_or ties count 0 ≡ count = itself (get_or ties count 0) count (ordered count inside) free in
            rw (e, same) refl
        by (inr ne) =
            let behind : get_or ties c 0 ≤ c = ordered c (omega arith) in
            rw (
              get_or_append_left variables (m ∷ []) 0 c (omega (arith, numbered.long)),
              get_or_append_left variables (m ∷ []) 0 (get_or ties c 0) (omega (arith, numbered.long)),
            ) (numbered.shared c (omega arith))

    first : (v : ℕ)
        → v < length (firsts ++ count ∷ [])
        → IsFirstCell (variables ++ m ∷ []) v (get_or (firsts ++ count ∷ []) v 0)
    first v h = by (cases_eq v m)
      where
        by : (v ≡ m) ⊎ (v ≢ m) → IsFirstCell (variables ++ m ∷ []) v (get_or (firsts ++ count ∷ []) v 0)
        by (inl e) = rw (e, get_or_push firsts count 0 m refl) (record {
          inside = omega (arith, length_push variables m, numbered.long);
          here = get_or_push variables m 0 count numbered.long;
          lower = λ k l. rw (get_or_append_left variables (m ∷ []) 0 k (omega (arith, numbered.long)))
              (are.below k 0 (omega (arith, numbered.long)));
        })
        by (inr ne) =
            let known : v < length firsts = omega (arith, length_push firsts count) in
            rw (get_or_append_left firsts (count ∷ []) 0 v known)
            (first_kept variables m v (get_or firsts v 0) (are.first v known))

    one : (xs : List ℕ)
        → AreTied ties xs
        → (c : ℕ)
        → c < count + 1
        → get_or xs c 0 ≡ get_or xs (get_or (firsts ++ count ∷ []) (get_or (variables ++ m ∷ []) c 0) 0) 0
    one xs tied c h = by (cases_eq c count)
      where
        by : (c ≡ count) ⊎ (c ≢ count)
            → get_or xs c 0 ≡ get_or xs (get_or (firsts ++ count ∷ []) (get_or (variables ++ m ∷ []) c 0) 0) 0
        by (inl e) = rw (e, get_or_push variables m 0 count numbered.long, get_or_push firsts count 0 m refl) refl
        by (inr ne) =
            let inside : c < length variables = omega (arith, numbered.long) in
            let known : get_or variables c 0 < length firsts = are.below c 0 inside in
            rw (
              get_or_append_left variables (m ∷ []) 0 c inside,
              get_or_append_left firsts (count ∷ []) 0 (get_or variables c 0) known,
            ) (numbered.one xs tied c (omega arith))
