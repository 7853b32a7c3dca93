-- A row is a case exactly where it has, at the first place of each variable, the values that it and the nogood give.
use Rattle.std.proofs.Common.{◌≡◌, ◌≢◌, ◌⊎◌, inl, inr, ℕ, ◌<◌, ◌≤◌, Bool, true, false, ◌&&◌, eqb, leb, List, [], ◌∷◌, ◌++◌, length, get_or, All, AllPairs, Contains, Option, Some, None, zero, suc, ◌+◌, take, refl, sym, ap, ◌∙◌, subst, arith}
use Rattle.std.specs.List.{list_all, list_any, position_or_len}
use Rattle.std.proofs.Math.Bool.{and-true}
use Rattle.std.proofs.lemmas.Bool.{and_right, or_cases, or_left, or_right, eq-eqb, eqb-true, leb-true, le-leb, lt-ltb, cases_lt, cases_order, cond-true, both_ways, false_from_ne_true}
use Rattle.std.proofs.lemmas.List.{length-take-le, get_or-take, get_or_default}
use Rattle.std.proofs.lemmas.List.Folds.{list_all-append, Any-from_list_any, list_any_at}
use Rattle.std.proofs.lemmas.List.Elements.{All-contains, Contains-append_left}
use Rattle.std.proofs.lemmas.List.Quantifiers.{position-Some}
use Rattle.std.proofs.lemmas.List.Sums.{fails_before_first}
use Rattle.pol_nogood.specs.Nogoods.{Pair}
use Rattle.pol_nogood.specs.Logs.{reading, is_case}
use Rattle.pol_nogood.specs.FirstPlaces.{first_place, agrees_at, agrees_first}
use Rattle.pol_nogood.proofs.LogCases.{Agree, case_from_test, test_from_case, pair_at, get_or-reading}
use Rattle.pol_nogood.proofs.LogLemmas.{All-from_list_all, list_all-from_All}

-- the first place of the variable at a place
record IsFirst (scope : List ℕ) (place first : ℕ) : Type 0 where
  found : first_place scope (get_or scope place 0) ≡ Some first
  before : first ≤ place

first_of : (scope : List ℕ) (place : ℕ) → place < length scope → IsFirst scope place (position_or_len (λ y. eqb y (get_or scope place 0)) scope)
first_of scope place inside =
    let x = get_or scope place 0 in
    let test : ℕ → Bool = λ y. eqb y x in
    let first = position_or_len test scope in
    let before : first ≤ place = by test first (eq-eqb x x refl) (cases_lt place first) (fails_before_first test scope place 0) in
    record {
      found = cond-true _ (Some first) None (lt-ltb first (length scope) (omega arith));
      before = before;
    }
  where
    by : (test : ℕ → Bool) (first : ℕ) → test (get_or scope place 0) ≡ true → (place < first) ⊎ (first ≤ place) → (place < first → test (get_or scope place 0) ≡ false) → first ≤ place
    by test first passes (inl less) fails = absurd (both_ways (test (get_or scope place 0)) (fails less) passes)
    by test first passes (inr more) fails = more

-- what stands at the first place of a variable, if it has one
found_at : (scope : List ℕ) (x first : ℕ) → first_place scope x ≡ Some first → (first < length scope) × (get_or scope first 0 ≡ x)
found_at scope x first found =
    let place = position-Some (λ y. eqb y x) scope first 0 found in
    (place.0, eqb-true (get_or scope first 0) x place.1)

-- the test of a place, in words

agrees_to : (row : List ℕ) (place : Option ℕ) (value : ℕ) → ((j : ℕ) → place ≡ Some j → j < length row → get_or row j 0 ≡ value) → agrees_at row place value ≡ true
agrees_to row None value holds = refl
agrees_to row (Some j) value holds = by (cases_lt j (length row))
  where
    by : (j < length row) ⊎ (length row ≤ j) → agrees_at row (Some j) value ≡ true
    by (inl less) = or_right (leb (length row) j) (eqb (get_or row j 0) value) (eq-eqb (get_or row j 0) value (holds j refl less))
    by (inr more) = or_left (leb (length row) j) (eqb (get_or row j 0) value) (le-leb (length row) j more)

agrees_from : (row : List ℕ) (place : Option ℕ) (value j : ℕ) → agrees_at row place value ≡ true → place ≡ Some j → j < length row → get_or row j 0 ≡ value
agrees_from row place value j passes found within = by (or_cases (leb (length row) j) (eqb (get_or row j 0) value) (subst (λ (some : Option ℕ). agrees_at row some value ≡ true) found passes))
  where
    by : (leb (length row) j ≡ true) ⊎ (eqb (get_or row j 0) value ≡ true) → get_or row j 0 ≡ value
    by (inl past) = absurd (omega (arith, leb-true (length row) j past))
    by (inr same) = eqb-true (get_or row j 0) value same

-- the pairs of a reading, at each place that scope and row both have

inside : (scope row : List ℕ) (j : ℕ) → j < length (reading scope row) → (j < length scope) × (j < length row)
inside [] row j known = absurd (omega arith)
inside (x ∷ scope) [] j known = absurd (omega arith)
inside (x ∷ scope) (v ∷ row) zero known = (omega arith, omega arith)
inside (x ∷ scope) (v ∷ row) (suc j) known =
    let rest = inside scope row j (omega arith) in
    (omega (arith, rest.0), omega (arith, rest.1))

known : (scope row : List ℕ) (j : ℕ) → j < length scope → j < length row → j < length (reading scope row)
known [] row j there within = absurd (omega arith)
known (x ∷ scope) [] j there within = absurd (omega arith)
known (x ∷ scope) (v ∷ row) zero there within = omega arith
known (x ∷ scope) (v ∷ row) (suc j) there within = omega (arith, known scope row j (omega arith) (omega arith))

is_read : (scope row : List ℕ) (j : ℕ) → j < length scope → j < length row → Contains (reading scope row) (pair_at scope row j)
is_read scope row j there within = (j, known scope row j there within, get_or-reading scope row j (pair_at scope row j) there within)

All-read : (P : Pair → Type 0) (scope row : List ℕ) → ((j : ℕ) → j < length scope → j < length row → P (pair_at scope row j)) → All P (reading scope row)
All-read P scope row holds = λ j d there.
    let both = inside scope row j there in
    subst P (sym (get_or-reading scope row j d both.0 both.1)) (holds j both.0 both.1)

module _ (scope : List ℕ) (nogood : List Pair) (row : List ℕ) where
  abbrev Passes : Pair → Type 0
  Passes q = agrees_first scope row q ≡ true

  passes_from_case : is_case scope nogood row ≡ true → All Passes (reading scope row ++ nogood)
  passes_from_case case = λ k d there.
      let all = reading scope row ++ nogood in
      let q = get_or all k d in
      agrees_to row (first_place scope q.variable) q.value (λ j found within.
      let place = found_at scope q.variable j found in
      let agrees : All (Agree (pair_at scope row j)) all = All-contains (λ (p : Pair). All (Agree p) all) (reading scope row) (pair_at scope row j) (case_from_test scope nogood row case) (is_read scope row j place.0 within) in
      agrees k d there place.1)

  case_from_passes : All Passes (reading scope row ++ nogood) → is_case scope nogood row ≡ true
  case_from_passes passes =
      let all = reading scope row ++ nogood in
      test_from_case scope nogood row (All-read (λ (p : Pair). All (Agree p) all) scope row (λ j there within k d known same.
      let p = pair_at scope row j in
      let q = get_or all k d in
      let first = position_or_len (λ y. eqb y (get_or scope j 0)) scope in
      let is : IsFirst scope j first = first_of scope j there in
      let left : get_or row first 0 ≡ p.value = agrees_from row (first_place scope p.variable) p.value first (All-contains Passes all p passes (Contains-append_left (reading scope row) nogood p (is_read scope row j there within))) is.found (omega (arith, is.before)) in
      let right : get_or row first 0 ≡ q.value = agrees_from row (first_place scope q.variable) q.value first (passes k d known) (sym (ap (first_place scope) same) ∙ is.found) (omega (arith, is.before)) in
      sym left ∙ right))

  -- a row is a case exactly where the pairs of its reading and of the nogood pass
  pub case_by_first : is_case scope nogood row ≡ list_all (agrees_first scope row) (reading scope row ++ nogood)
  case_by_first = same (is_case scope nogood row) (list_all (agrees_first scope row) all)
      (λ case. list_all-from_All (agrees_first scope row) Passes (λ q passes. passes) all (passes_from_case case))
      (λ passes. case_from_passes (All-from_list_all (agrees_first scope row) Passes (λ q passes. passes) all passes))
    where
      all : List Pair
      all = reading scope row ++ nogood

      same : (a b : Bool) → (a ≡ true → b ≡ true) → (b ≡ true → a ≡ true) → a ≡ b
      same true b to from = sym (to refl)
      same false b to from = sym (false_from_ne_true b (λ passes. both_ways false refl (from passes)))

  pub case_excluded : list_all (agrees_first scope row) nogood ≡ false → is_case scope nogood row ≡ false
  case_excluded fails = case_by_first ∙ (list_all-append (agrees_first scope row) (reading scope row) nogood ∙ and_right (list_all (agrees_first scope row) (reading scope row)) (list_all (agrees_first scope row) nogood) fails)

  pub case_read : list_all (agrees_first scope row) nogood ≡ true → is_case scope nogood row ≡ list_all (agrees_first scope row) (reading scope row)
  case_read passes = case_by_first ∙ (list_all-append (agrees_first scope row) (reading scope row) nogood ∙ (ap (λ b. list_all (agrees_first scope row) (reading scope row) && b) passes ∙ and-true (list_all (agrees_first scope row) (reading scope row))))

-- where no variable repeats, the row reads one value for each
pub distinct_read : (scope row : List ℕ) → AllPairs (λ x y. x ≢ y) scope → list_all (agrees_first scope row) (reading scope row) ≡ true
distinct_read scope row distinct =
    let Passes : Pair → Type 0 = λ p. agrees_first scope row p ≡ true in
    list_all-from_All (agrees_first scope row) Passes (λ p passes. passes) (reading scope row) (All-read Passes scope row (λ j there within.
    agrees_to row (first_place scope (get_or scope j 0)) (get_or row j 0) (λ i found less.
    let place = found_at scope (get_or scope j 0) i found in
    ap (λ n. get_or row n 0) (by i j (cases_order i j) place.0 there place.1))))
  where
    by : (i j : ℕ) → (i ≡ j) ⊎ ((i < j) ⊎ (j < i)) → i < length scope → j < length scope → get_or scope i 0 ≡ get_or scope j 0 → i ≡ j
    by i j (inl one) here there same = one
    by i j (inr (inl less)) here there same = absurd (distinct i j 0 less there same)
    by i j (inr (inr more)) here there same = absurd (distinct j i 0 more here (sym same))

-- whether a variable repeats

-- the variables of the first places are distinct
abbrev pub AreDistinct : List ℕ → ℕ → Type 0
AreDistinct scope count = (i j : ℕ) → i < j → j < count → get_or scope i 0 ≢ get_or scope j 0

-- the variable of the place stands at one before it
abbrev pub stands_before : List ℕ → ℕ → Bool
stands_before scope place = list_any (λ y. eqb y (get_or scope place 0)) (take place scope)

pub repeated : (scope : List ℕ) (place : ℕ) → place < length scope → stands_before scope place ≡ true → AllPairs (λ x y. x ≢ y) scope → ⊥
repeated scope place known stands distinct =
    let any = Any-from_list_any (λ y. eqb y (get_or scope place 0)) (take place scope) stands in
    let less : any.0 < place = omega (arith, any.2, length-take-le place scope (omega arith)) in
    let same : get_or scope any.0 0 ≡ any.1 = get_or_default scope any.0 0 any.1 (omega arith) ∙ (sym (get_or-take place scope any.0 any.1 less) ∙ any.3) in
    distinct any.0 place 0 less known (same ∙ eqb-true any.1 (get_or scope place 0) any.4)

pub distinct_more : (scope : List ℕ) (place : ℕ) → place < length scope → stands_before scope place ≡ false → AreDistinct scope place → AreDistinct scope (place + 1)
distinct_more scope place known stands distinct = λ i j less within same. by i j less same (cases_lt j place) (omega arith)
  where
    by : (i j : ℕ) → i < j → get_or scope i 0 ≡ get_or scope j 0 → (j < place) ⊎ (place ≤ j) → j ≤ place → ⊥
    by i j less same (inl before) within = distinct i j less before same
    by i j less same (inr here) within =
        let last : j ≡ place = omega arith in
        let x = get_or scope place 0 in
        let there : i < length (take place scope) = omega (arith, length-take-le place scope (omega arith)) in
        let found : get_or (take place scope) i 0 ≡ x = get_or-take place scope i 0 (omega arith) ∙ (same ∙ ap (λ n. get_or scope n 0) last) in
        both_ways (stands_before scope place) stands (list_any_at (λ y. eqb y x) (take place scope) i 0 there (eq-eqb (get_or (take place scope) i 0) x found))

pub distinct_all : (scope : List ℕ) (count : ℕ) → length scope ≤ count → AreDistinct scope count → AllPairs (λ x y. x ≢ y) scope
distinct_all scope count all distinct = λ i j d less known same. distinct i j less (omega arith) (get_or_default scope i 0 d (omega arith) ∙ (same ∙ get_or_default scope j d 0 known))
