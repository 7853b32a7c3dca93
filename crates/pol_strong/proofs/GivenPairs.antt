-- The pairs of the first variables with values: what is among them, and what the value of the next variable adds.
use Rattle.std.proofs.Common.{All, AllPairs, take, slice_get, Some, ◌≡◌, ◌≢◌, ℕ, ◌+◌, ◌-◌, ◌<◌, List, [], ◌∷◌, ◌++◌, length, Contains, arith, ap, get_or, inl, inr, refl, sym, ◌∙◌, ◌⊎◌, subst}
use Rattle.std.specs.List.{range_with_len}
use Rattle.std.proofs.lemmas.Bool.{cases_eq}
use Rattle.std.proofs.lemmas.List.{length-take-le, get_or-take, get_or_push, get_or_append_left, length_push, map-id}
use Rattle.std.proofs.lemmas.List.Elements.{All-more, All-contains, All-from_get_or}
use Rattle.std.proofs.lemmas.Option.{get_or_from_slice_get, slice_get_within}
use Rattle.std.proofs.lemmas.List.FromFn.{length-range_with_len, get_or-range_with_len, map-range_with_len_more}
use Rattle.pol_nogood.specs.Nogoods.{Pair, Holds}
use Rattle.pol_nogood.specs.Logs.{StepView, reading, value_case}
use Rattle.pol_nogood.proofs.LogCases.{pair_at, reading_place, All-reading}
use Rattle.pol_nogood.proofs.PackedPairs.{reading_push}
use Rattle.pol_strong.specs.Contradictions.{IsContradicted, given, Avoids, Completes, IsIndifferent}

-- the variable is one of the first ones, and has the value
pub record IsGiven (values : List ℕ) (p : Pair) : Type 0 where
  pub below : p.variable < length values
  pub value_is : get_or values p.variable 0 ≡ p.value

module _ (values : List ℕ) where
  abbrev first : List ℕ
  first = range_with_len 0 (length values)

  first_at : (j : ℕ) → j < length values → get_or first j 0 ≡ j
  first_at j below = omega (arith, get_or-range_with_len 0 (length values) j 0 below)

  pub in_given : (p : Pair) → IsGiven values p → Contains (given values) p
  in_given p is =
      let long : length values ≡ length first = sym (length-range_with_len 0 (length values)) in
      let variables : get_or first p.variable 0 ≡ p.variable = first_at p.variable is.below in
      let same : pair_at first values p.variable ≡ p = λ i. record { variable = variables i; value = is.value_is i } in
      subst (Contains (given values)) same (reading_place first values p.variable long (omega (arith, is.below)))

  pub given_is : (p : Pair) → Contains (given values) p → IsGiven values p
  given_is p inside =
      let long : length values ≡ length first = sym (length-range_with_len 0 (length values)) in
      All-contains (IsGiven values) (given values) p
      (All-reading (IsGiven values) first values long (λ j within.
      let below : j < length values = omega arith in
      let variables : j ≡ get_or first j 0 = sym (first_at j below) in
      let same : record { variable = j; value = get_or values j 0 } ≡ pair_at first values j
      = λ i. record { variable = variables i; value = get_or values j 0 } in
      subst (IsGiven values) same (record { below = below; value_is = refl })))
      inside

-- with the value of the next variable there is one more pair
pub given_push : (values : List ℕ) (b : ℕ) → given (values ++ b ∷ []) ≡ given values ++ value_case (length values) b
given_push values b =
    let n : ℕ = length values in
    let more = map-range_with_len_more (λ (x : ℕ). x) 0 n n (omega arith) in
    let numbers : range_with_len 0 (n + 1) ≡ range_with_len 0 n ++ n ∷ []
    = rw (map-id (range_with_len 0 (n + 1)), map-id (range_with_len 0 n)) at more in
    ap (λ m. reading (range_with_len 0 m) (values ++ b ∷ [])) (length_push values b)
    ∙ (ap (λ xs. reading xs (values ++ b ∷ [])) numbers
    ∙ reading_push (range_with_len 0 n) values n b (sym (length-range_with_len 0 n)))

-- the pair of an earlier variable was given before
given_earlier : (values : List ℕ) (b : ℕ) (p : Pair) → p.variable < length values → IsGiven (values ++ b ∷ []) p
    → IsGiven values p
given_earlier values b p earlier is = record {
  below = earlier;
  value_is = sym (get_or_append_left values (b ∷ []) 0 p.variable earlier) ∙ is.value_is;
}

-- and is given still
given_still : (values : List ℕ) (b : ℕ) (p : Pair) → IsGiven values p → IsGiven (values ++ b ∷ []) p
given_still values b p is = record {
  below = omega (arith, is.below, length_push values b);
  value_is = get_or_append_left values (b ∷ []) 0 p.variable is.below ∙ is.value_is;
}

-- ---- the last pair of a nogood

module _ (nogood : List Pair) (ascends : AllPairs (λ p q. p.variable < q.variable) nogood) (none : Pair)
    (values : List ℕ) where
  abbrev last : Pair
  last = get_or nogood (length nogood - 1) none

  before_last : (k : ℕ) → k < length nogood
      → (k ≡ length nogood - 1) ⊎ ((get_or nogood k none).variable < last.variable)
  before_last k inside = by (cases_eq k (length nogood - 1))
    where
      by : (k ≡ length nogood - 1) ⊎ (k ≡ length nogood - 1 → ⊥)
          → (k ≡ length nogood - 1) ⊎ ((get_or nogood k none).variable < last.variable)
      by (inl here) = inl here
      by (inr apart) = inr (ascends k (length nogood - 1) none (omega arith) (omega arith))

  -- where the last pair is not of the next variable, the next value is of no matter
  given_last : last.variable ≢ length values → IsIndifferent nogood values
  given_last apart b within = All-from_get_or (Contains (given values)) nogood none (λ k inside.
      let there : IsGiven (values ++ b ∷ []) (get_or nogood k none)
      = given_is (values ++ b ∷ []) (get_or nogood k none) (within k none inside) in
      let last_there : IsGiven (values ++ b ∷ []) last
      = given_is (values ++ b ∷ []) last (within (length nogood - 1) none (omega arith)) in
      let last_earlier : last.variable < length values = omega (arith, apart, last_there.below, length_push values b) in
      in_given values (get_or nogood k none)
      (given_earlier values b (get_or nogood k none) (earlier k last_earlier (before_last k inside)) there))
    where
      earlier : (k : ℕ) → last.variable < length values
          → (k ≡ length nogood - 1) ⊎ ((get_or nogood k none).variable < last.variable)
          → (get_or nogood k none).variable < length values
      earlier k less (inl here) = subst (λ i. (get_or nogood i none).variable < length values) (sym here) less
      earlier k less (inr before) = omega arith

  -- where a pair before the last has another value than is given, none of the next values completes the nogood
  given_other : (k : ℕ) → k + 1 < length nogood → last.variable ≡ length values
      → get_or values (get_or nogood k none).variable 0 ≢ (get_or nogood k none).value
      → IsIndifferent nogood values
  given_other k inside last_is other b within =
      let p : Pair = get_or nogood k none in
      let less : p.variable < last.variable = ascends k (length nogood - 1) none (omega arith) (omega arith) in
      let there : IsGiven (values ++ b ∷ []) p = given_is (values ++ b ∷ []) p (within k none (omega arith)) in
      absurd (other (given_earlier values b p (omega (arith, less, last_is)) there).value_is)

  -- and where the pairs before it are given, its value does
  given_completes : 0 < length nogood → last.variable ≡ length values
      → ((k : ℕ) → k + 1 < length nogood
      → get_or values (get_or nogood k none).variable 0 ≡ (get_or nogood k none).value)
      → Completes nogood values last.value
  given_completes some last_is held = record {
    completed = All-from_get_or (Contains (given (values ++ last.value ∷ []))) nogood none (λ k inside.
        in_given (values ++ last.value ∷ []) (get_or nogood k none) (by k inside (before_last k inside)));
    only = λ other within.
        let there : IsGiven (values ++ other ∷ []) last
        = given_is (values ++ other ∷ []) last (within (length nogood - 1) none (omega arith)) in
        sym (get_or_push values other 0 last.variable (sym last_is)) ∙ there.value_is;
  }
    where
      by : (k : ℕ) → k < length nogood → (k ≡ length nogood - 1) ⊎ ((get_or nogood k none).variable < last.variable)
          → IsGiven (values ++ last.value ∷ []) (get_or nogood k none)
      by k inside (inl here) = subst (λ i. IsGiven (values ++ last.value ∷ []) (get_or nogood i none)) (sym here)
          (record {
            below = omega (arith, last_is, length_push values last.value);
            value_is = get_or_push values last.value 0 last.variable (sym last_is);
          })
      by k inside (inr before) = given_still values last.value (get_or nogood k none) (record {
        below = omega (arith, before, last_is);
        value_is = held k (later (cases_eq (k + 1) (length nogood)));
      })
        where
          later : (k + 1 ≡ length nogood) ⊎ (k + 1 ≡ length nogood → ⊥) → k + 1 < length nogood
          later (inl same) =
              let here : k ≡ length nogood - 1 = omega arith in
              let equal : (get_or nogood k none).variable ≡ last.variable
              = ap (λ i. (get_or nogood i none).variable) here in
              absurd (omega (arith, before, equal))
          later (inr apart) = omega arith

-- a nogood whose last pair was read
module _ (nogood : List Pair) (ascends : AllPairs (λ p q. p.variable < q.variable) nogood) (p : Pair)
    (read : slice_get nogood (length nogood - 1) ≡ Some p) (values : List ℕ) where
  at_last : get_or nogood (length nogood - 1) p ≡ p
  at_last = get_or_from_slice_get nogood (length nogood - 1) p p read

  some_pairs : 0 < length nogood
  some_pairs = omega (arith, slice_get_within nogood (length nogood - 1) p read)

  last_variable : (get_or nogood (length nogood - 1) p).variable ≡ p.variable
  last_variable = ap (λ (q : Pair). q.variable) at_last

  -- the next value is of no matter where that pair is of another variable
  pub indifferent_last : p.variable ≢ length values → IsIndifferent nogood values
  indifferent_last apart = given_last nogood ascends p values (λ same. apart (sym last_variable ∙ same))

  -- the pairs before it are of lower variables
  pub below_last : (k : ℕ) (q : Pair) → slice_get nogood k ≡ Some q → k < length nogood - 1 → q.variable < p.variable
  below_last k q there before =
      let less : (get_or nogood k p).variable < (get_or nogood (length nogood - 1) p).variable
      = ascends k (length nogood - 1) p before (omega arith) in
      let here : (get_or nogood k p).variable ≡ q.variable
      = ap (λ (r : Pair). r.variable) (get_or_from_slice_get nogood k q p there) in
      omega (arith, less, here, last_variable)

  -- nor is it where one of them is not held
  pub indifferent_other : p.variable ≡ length values
      → (k : ℕ) (q : Pair) → slice_get nogood k ≡ Some q → k < length nogood - 1 → get_or values q.variable 0 ≢ q.value
      → IsIndifferent nogood values
  indifferent_other last_is k q there before other =
      given_other nogood ascends p values k (omega arith) (last_variable ∙ last_is)
      (subst (λ (r : Pair). get_or values r.variable 0 ≢ r.value)
      (sym (get_or_from_slice_get nogood k q p there)) other)

  -- and else its value completes the nogood
  pub completes_last : p.variable ≡ length values → Holds values (take (length nogood - 1) nogood)
      → Completes nogood values p.value
  completes_last last_is held =
      subst (Completes nogood values) (ap (λ (q : Pair). q.value) at_last)
      (given_completes nogood ascends p values some_pairs (last_variable ∙ last_is) (λ k inside.
      let before : k < length nogood - 1 = omega arith in
      let within : k < length (take (length nogood - 1) nogood)
      = omega (arith, length-take-le (length nogood - 1) nogood (omega arith)) in
      subst (λ (r : Pair). get_or values r.variable 0 ≡ r.value)
      (get_or-take (length nogood - 1) nogood k p before) (held k p within)))

  pub last_below : (d : ℕ) → All (λ q. q.value < d) nogood → p.value < d
  last_below d below =
      subst (λ (q : Pair). q.value < d) at_last
      (below (length nogood - 1) p (slice_get_within nogood (length nogood - 1) p read))

-- one more pair is held
pub held_more : (values : List ℕ) (nogood : List Pair) (k : ℕ) (q : Pair) → slice_get nogood k ≡ Some q
    → get_or values q.variable 0 ≡ q.value
    → Holds values (take k nogood)
    → Holds values (take (k + 1) nogood)
held_more values nogood k q there is held =
    All-more (λ (r : Pair). get_or values r.variable 0 ≡ r.value) nogood k q (slice_get_within nogood k q there) held
    (subst (λ (r : Pair). get_or values r.variable 0 ≡ r.value) (sym (get_or_from_slice_get nogood k q q there)) is)

-- ---- values that avoid a log

-- values that avoid it still do with a further one with which no nogood is contained
pub avoided_push : (log : List StepView) (values : List ℕ) (b : ℕ)
    → ¬ IsContradicted log (given values ++ value_case (length values) b)
    → Avoids log (values ++ b ∷ [])
avoided_push log values b free = subst (λ (pairs : List Pair). ¬ IsContradicted log pairs)
    (sym (given_push values b)) free
