-- The cases of a step: which rows are cases, and that an assignment that meets the constraints reads one of them.
use Rattle.std.proofs.Common.{◌≡◌, [], ◌⊎◌, inl, inr, true, not, eqb, ℕ, List, ◌++◌, All, ◌≢◌, false, Contains, get_or, suc, ◌∷◌, length, refl, ap, arith, zero, ◌<◌, sym, subst, ◌∙◌, filter}
use Rattle.std.specs.List.{list_all}
use Rattle.std.proofs.lemmas.Bool.{or_cases, not-true, eqb-true, eqb-false, or_left, or_right, not_from_false, eq-eqb, ne_eqb, cases_eq, false_from_ne_true}
use Rattle.std.proofs.lemmas.List.{get_or_default}
use Rattle.std.proofs.lemmas.List.Elements.{All-contains, Contains-get_or, Contains-append_left, Contains-append_right, All-append, All-nil, All-cons}
use Rattle.std.proofs.lemmas.List.FromFn.{length-map-range_with_len, get_or-map-range_with_len}
use Rattle.pol_nogood.specs.Nogoods.{Pair, Holds}
use Rattle.pol_nogood.specs.Logs.{compatible, reading, is_case, Basis, cases_of, value_case}
use Rattle.pol_nogood.proofs.LogLemmas.{All-from_list_all, list_all-from_All}
use Rattle.pol_relation.specs.Instances.{read_at, InstanceView, constraint_of, IsSolution, no_constraint}
use Rattle.pol_relation.specs.Relations.{LanguageView, rows_of}
use Rattle.pol_base.proofs.MemberLemmas.{in_map, in_filter}
use Rattle.pol_nogood.specs.ValidLogs.{CanRestOn}

-- the pairs do not give one variable two values
abbrev pub Agree : Pair → Pair → Type 0
Agree p q = p.variable ≡ q.variable → p.value ≡ q.value

agree_from : (p q : Pair) → compatible p q ≡ true → Agree p q
agree_from p q passes same = by (or_cases (not (eqb p.variable q.variable)) (eqb p.value q.value) passes)
  where
    by : (not (eqb p.variable q.variable) ≡ true) ⊎ (eqb p.value q.value ≡ true) → p.value ≡ q.value
    by (inl other) = absurd (eqb-false p.variable q.variable (not-true (eqb p.variable q.variable) other) same)
    by (inr one) = eqb-true p.value q.value one

agree_to : (p q : Pair) → Agree p q → compatible p q ≡ true
agree_to p q agree = by (cases_eq p.variable q.variable)
  where
    by : (p.variable ≡ q.variable) ⊎ (p.variable ≡ q.variable → ⊥) → compatible p q ≡ true
    by (inl same) = or_right (not (eqb p.variable q.variable)) (eqb p.value q.value) (eq-eqb p.value q.value (agree same))
    by (inr other) = or_left (not (eqb p.variable q.variable)) (eqb p.value q.value) (not_from_false (eqb p.variable q.variable) (ne_eqb p.variable q.variable other))

-- a row that is a case agrees with itself and with the nogood
abbrev pub IsCase : List ℕ → List Pair → List ℕ → Type 0
IsCase scope nogood row = All (λ p. All (Agree p) (reading scope row ++ nogood)) (reading scope row)

agrees_from_test : (others : List Pair) (p : Pair) → list_all (λ q. compatible p q) others ≡ true → All (Agree p) others
agrees_from_test others p passes = All-from_list_all (λ q. compatible p q) (Agree p) (agree_from p) others passes

test_from_agrees : (others : List Pair) (p : Pair) → All (Agree p) others → list_all (λ q. compatible p q) others ≡ true
test_from_agrees others p agrees = list_all-from_All (λ q. compatible p q) (Agree p) (agree_to p) others agrees

pub case_from_test : (scope : List ℕ) (nogood : List Pair) (row : List ℕ) → is_case scope nogood row ≡ true → IsCase scope nogood row
case_from_test scope nogood row passes =
    All-from_list_all (λ p. list_all (λ q. compatible p q) (reading scope row ++ nogood)) (λ p. All (Agree p) (reading scope row ++ nogood)) (agrees_from_test (reading scope row ++ nogood)) (reading scope row) passes

pub test_from_case : (scope : List ℕ) (nogood : List Pair) (row : List ℕ) → IsCase scope nogood row → is_case scope nogood row ≡ true
test_from_case scope nogood row is =
    list_all-from_All (λ p. list_all (λ q. compatible p q) (reading scope row ++ nogood)) (λ p. All (Agree p) (reading scope row ++ nogood)) (test_from_agrees (reading scope row ++ nogood)) (reading scope row) is

-- a row that reads two values for one variable, or another value than the nogood, is no case
pub no_case : (scope : List ℕ) (nogood : List Pair) (row : List ℕ) (p q : Pair) → Contains (reading scope row) p → Contains (reading scope row ++ nogood) q → p.variable ≡ q.variable → p.value ≢ q.value → is_case scope nogood row ≡ false
no_case scope nogood row p q read other same apart = false_from_ne_true (is_case scope nogood row) (λ passes.
    let agrees : All (Agree p) (reading scope row ++ nogood) = All-contains (λ (p : Pair). All (Agree p) (reading scope row ++ nogood)) (reading scope row) p (case_from_test scope nogood row passes) read in
    let values = All-contains (Agree p) (reading scope row ++ nogood) q agrees other in
    apart (values same))

-- the pairs of a reading, place by place

abbrev pub pair_at : List ℕ → List ℕ → ℕ → Pair
pair_at scope row j = record { variable = get_or scope j 0; value = get_or row j 0 }

pub length-reading : (scope row : List ℕ) → length row ≡ length scope → length (reading scope row) ≡ length scope
length-reading [] row long = refl
length-reading (x ∷ scope) [] long = long
length-reading (x ∷ scope) (v ∷ row) long = ap suc (length-reading scope row (omega arith))

pub get_or-reading : (scope row : List ℕ) (j : ℕ) (d : Pair) → j < length scope → j < length row → get_or (reading scope row) j d ≡ pair_at scope row j
get_or-reading [] row j d inside within = absurd (omega arith)
get_or-reading (x ∷ scope) [] j d inside within = absurd (omega arith)
get_or-reading (x ∷ scope) (v ∷ row) zero d inside within = refl
get_or-reading (x ∷ scope) (v ∷ row) (suc j) d inside within = get_or-reading scope row j d (omega arith) (omega arith)

-- what the row has at a place is read
pub reading_place : (scope row : List ℕ) (j : ℕ) → length row ≡ length scope → j < length scope → Contains (reading scope row) (pair_at scope row j)
reading_place scope row j long inside = (j, omega (arith, length-reading scope row long), get_or-reading scope row j (pair_at scope row j) inside (omega arith))

-- and what holds at each place holds for each pair that is read
pub All-reading : (P : Pair → Type 0) (scope row : List ℕ) → length row ≡ length scope → ((j : ℕ) → j < length scope → P (pair_at scope row j)) → All P (reading scope row)
All-reading P scope row long holds = λ j d inside.
    let within : j < length scope = omega (arith, length-reading scope row long) in
    subst P (sym (get_or-reading scope row j d within (omega arith))) (holds j within)

pub reading-All : (P : Pair → Type 0) (scope row : List ℕ) → length row ≡ length scope → All P (reading scope row) → (j : ℕ) → j < length scope → P (pair_at scope row j)
reading-All P scope row long holds j inside = All-contains P (reading scope row) (pair_at scope row j) holds (reading_place scope row j long inside)

-- the row has one value for each repeated variable, and the values that the nogood gives
pub record IsCaseByPlace (scope : List ℕ) (nogood : List Pair) (row : List ℕ) : Type 0 where
  pub repeats : (j k : ℕ) → j < length scope → k < length scope → get_or scope j 0 ≡ get_or scope k 0 → get_or row j 0 ≡ get_or row k 0
  pub agrees : (j : ℕ) → j < length scope → All (λ q. get_or scope j 0 ≡ q.variable → get_or row j 0 ≡ q.value) nogood

pub places_from_case : (scope : List ℕ) (nogood : List Pair) (row : List ℕ) → length row ≡ length scope → is_case scope nogood row ≡ true → IsCaseByPlace scope nogood row
places_from_case scope nogood row long passes =
    let read = reading scope row in
    let at : (j : ℕ) → j < length scope → All (Agree (pair_at scope row j)) (read ++ nogood) = reading-All (λ (p : Pair). All (Agree p) (read ++ nogood)) scope row long (case_from_test scope nogood row passes) in
    record {
      repeats = λ j k inside within. All-contains (Agree (pair_at scope row j)) (read ++ nogood) (pair_at scope row k) (at j inside) (Contains-append_left read nogood (pair_at scope row k) (reading_place scope row k long within));
      agrees = λ j inside k d within. All-contains (Agree (pair_at scope row j)) (read ++ nogood) (get_or nogood k d) (at j inside) (Contains-append_right read nogood (get_or nogood k d) (Contains-get_or nogood k d within));
    }

pub case_from_places : (scope : List ℕ) (nogood : List Pair) (row : List ℕ) → length row ≡ length scope → IsCaseByPlace scope nogood row → is_case scope nogood row ≡ true
case_from_places scope nogood row long is =
    test_from_case scope nogood row (All-reading (λ (p : Pair). All (Agree p) (reading scope row ++ nogood)) scope row long (λ j inside.
    All-append (Agree (pair_at scope row j)) (reading scope row) nogood (All-reading (Agree (pair_at scope row j)) scope row long (λ k within. is.repeats j k inside within)) (is.agrees j inside)))

-- one place at which the row has another value than the nogood excludes it
pub excluded_at : (scope : List ℕ) (nogood : List Pair) (row : List ℕ) (j : ℕ) (q : Pair) → length row ≡ length scope → j < length scope → Contains nogood q → get_or scope j 0 ≡ q.variable → get_or row j 0 ≢ q.value → is_case scope nogood row ≡ false
excluded_at scope nogood row j q long inside member same apart = no_case scope nogood row (pair_at scope row j) q (reading_place scope row j long inside) (Contains-append_right (reading scope row) nogood q member) same apart

-- and so do two places of one variable at which it has two values
pub excluded_by_repeat : (scope : List ℕ) (nogood : List Pair) (row : List ℕ) (j k : ℕ) → length row ≡ length scope → j < length scope → k < length scope → get_or scope j 0 ≡ get_or scope k 0 → get_or row j 0 ≢ get_or row k 0 → is_case scope nogood row ≡ false
excluded_by_repeat scope nogood row j k long inside within same apart =
    no_case scope nogood row (pair_at scope row j) (pair_at scope row k) (reading_place scope row j long inside) (Contains-append_left (reading scope row) nogood (pair_at scope row k) (reading_place scope row k long within)) same apart

-- what a solution holds

-- an assignment holds what it reads
pub holds_reading : (assignment scope : List ℕ) → Holds assignment (reading scope (read_at assignment scope))
holds_reading assignment [] = All-nil (λ (p : Pair). get_or assignment p.variable 0 ≡ p.value)
holds_reading assignment (x ∷ scope) = All-cons (λ (p : Pair). get_or assignment p.variable 0 ≡ p.value) (record { variable = x; value = get_or assignment x 0 }) (reading scope (read_at assignment scope)) refl (holds_reading assignment scope)

-- what one assignment holds agrees
agree_held : (assignment : List ℕ) (others : List Pair) (p : Pair) → get_or assignment p.variable 0 ≡ p.value → Holds assignment others → All (Agree p) others
agree_held assignment others p held holds = λ k d inside same. sym held ∙ (ap (λ x. get_or assignment x 0) same ∙ holds k d inside)

-- what an assignment reads at a scope is a case of each nogood that it holds
pub case_held : (assignment scope : List ℕ) (nogood : List Pair) → Holds assignment nogood → is_case scope nogood (read_at assignment scope) ≡ true
case_held assignment scope nogood holds =
    let read = holds_reading assignment scope in
    let row = read_at assignment scope in
    let all = All-append (λ (p : Pair). get_or assignment p.variable 0 ≡ p.value) (reading scope row) nogood read holds in
    test_from_case scope nogood row (λ k d inside. agree_held assignment (reading scope row ++ nogood) (get_or (reading scope row) k d) (read k d inside) all)

-- a row that is read is one of the cases
pub row_in_cases : (lang : LanguageView) (inst : InstanceView) (c : ℕ) (nogood : List Pair) (row : List ℕ) → Contains (rows_of lang (constraint_of inst c).relation) row → is_case (constraint_of inst c).scope nogood row ≡ true → Contains (cases_of lang inst (Basis.ByConstraint c) nogood) (reading (constraint_of inst c).scope row)
row_in_cases lang inst c nogood row inside is =
    let scope = (constraint_of inst c).scope in
    let rows = rows_of lang (constraint_of inst c).relation in
    in_map (reading scope) (filter (is_case scope nogood) rows) row (in_filter (is_case scope nogood) rows row inside is)

-- the nogood joined with one of the cases is held
pub record HasHeldCase (Held : List Pair → Type 0) (nogood : List Pair) (cases : List (List Pair)) : Type 0 where
  pub number : ℕ
  pub within : number < length cases
  pub held : Held (nogood ++ get_or cases number [])

pub held_case : (Held : List Pair → Type 0) (nogood : List Pair) (cases : List (List Pair)) (one : List Pair) → Contains cases one → Held (nogood ++ one) → HasHeldCase Held nogood cases
held_case Held nogood cases one inside held = record {
  number = inside.0;
  within = inside.1;
  held = subst (λ (pairs : List Pair). Held (nogood ++ pairs)) (sym (get_or_default cases inside.0 [] one inside.1 ∙ inside.2)) held;
}

-- a solution that holds the nogood of a step holds one of its cases
pub solution_case : (lang : LanguageView) (inst : InstanceView) (assignment : List ℕ) (nogood : List Pair) (g : Basis) → IsSolution lang inst assignment → CanRestOn inst nogood g → Holds assignment nogood → HasHeldCase (Holds assignment) nogood (cases_of lang inst g nogood)
solution_case lang inst assignment nogood (Basis.ByConstraint c) solution known holds =
    let scope = (constraint_of inst c).scope in
    let one = reading scope (read_at assignment scope) in
    held_case (Holds assignment) nogood (cases_of lang inst (Basis.ByConstraint c) nogood) one
    (row_in_cases lang inst c nogood (read_at assignment scope) (solution.meets c no_constraint known) (case_held assignment scope nogood holds))
    (All-append (λ (p : Pair). get_or assignment p.variable 0 ≡ p.value) nogood one holds (holds_reading assignment scope))
solution_case lang inst assignment nogood (Basis.ByVariable v) solution known holds =
    let value = get_or assignment v 0 in
    let below : value < lang.domain = solution.assigns.below v 0 (omega (arith, solution.assigns.long, known.0)) in
    let place = get_or-map-range_with_len (value_case v) 0 lang.domain value value [] below (omega arith) in
    record {
      number = value;
      within = omega (arith, length-map-range_with_len (value_case v) 0 lang.domain);
      held = subst (λ (pairs : List Pair). Holds assignment (nogood ++ pairs)) (sym place)
          (All-append (λ (p : Pair). get_or assignment p.variable 0 ≡ p.value) nogood (value_case v value) holds (All-cons (λ (p : Pair). get_or assignment p.variable 0 ≡ p.value) (record { variable = v; value = value }) [] refl (All-nil (λ (p : Pair). get_or assignment p.variable 0 ≡ p.value))));
    }
