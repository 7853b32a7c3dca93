-- A log is finished where each constraint has cases on its own scope, each nogood with a pair has open values, and each
-- variable has a value that is left.
use Rattle.std.proofs.Common.{◌≡◌, ◌≢◌, ℕ, ◌<◌, Bool, true, not, List, [], ◌∷◌, ◌++◌, length, All, Contains, filter, arith, ap, get_or, inl, inr, refl, sym, ◌⊎◌, subst}
use Rattle.std.specs.Prelude.{◌==◌}
use Rattle.std.specs.List.{list_any}
use Rattle.std.proofs.lemmas.Bool.{eqb-true, eq-eqb}
use Rattle.std.proofs.lemmas.List.Elements.{Contains-get_or, All-contains, All-filter, All-weaker, Contains-append_cases, Contains-append_left, Contains-append_right, All-contains_itself, filter_passes}
use Rattle.std.proofs.lemmas.List.Filters.{length-filter_both}
use Rattle.std.proofs.lemmas.List.Folds.{Any-from_list_any, list_any_at}
use Rattle.std.proofs.lemmas.List.Kept.{AllPairs-filter}
use Rattle.pol_base.proofs.MemberLemmas.{Contains-here, Contains-there, Contains-cons_cases, Contains-nil, in_filter}
use Rattle.pol_relation.specs.Relations.{LanguageView}
use Rattle.pol_relation.specs.Instances.{InstanceView, ConstraintView}
use Rattle.pol_nogood.specs.Nogoods.{Pair, IsPair, IsNogood, IsContained}
use Rattle.pol_nogood.specs.Logs.{StepView, no_step, nogood_at, reading, is_case}
use Rattle.pol_nogood.specs.ValidLogs.{AreValid}
use Rattle.pol_nogood.proofs.LogCases.{Agree, case_from_test, test_from_case}
use Rattle.pol_nogood.proofs.LogMaking.{IsContained-trans}
use Rattle.pol_strong.specs.Contradictions.{IsContradicted, IsOpen, AreOpen, HasCase}
use Rattle.pol_strong.specs.Finished.{IsSmall, AllSettled, HasScopeCases, AllOpen, HasValue}

-- what contains a nogood of the log in a part of it does as a whole
pub contradicted_within : (log : List StepView) (some nogood : List Pair) → IsContained some nogood
    → IsContradicted log some
    → IsContradicted log nogood
contradicted_within log some nogood inside found = record {
  step = found.step;
  known = found.known;
  within = IsContained-trans (nogood_at log found.step) some nogood found.within inside;
}

-- ---- cases, by the pairs on the scope

abbrev is_on : List ℕ → Pair → Bool
is_on scope p = list_any (λ y. y == p.variable) scope

-- the pairs of the scope's variables
abbrev on_scope : List ℕ → List Pair → List Pair
on_scope scope nogood = filter (is_on scope) nogood

is_on-true : (scope : List ℕ) (p : Pair) → Contains scope p.variable → is_on scope p ≡ true
is_on-true scope p inside =
    list_any_at (λ y. y == p.variable) scope inside.0 p.variable inside.1
    (eq-eqb (get_or scope inside.0 p.variable) p.variable inside.2)

true-is_on : (scope : List ℕ) (p : Pair) → is_on scope p ≡ true → Contains scope p.variable
true-is_on scope p passes =
    let found = Any-from_list_any (λ y. y == p.variable) scope passes in
    let same : found.1 ≡ p.variable = eqb-true found.1 p.variable found.4 in
    subst (Contains scope) same (found.0, found.2, found.3)

-- what is read is read for a variable of the scope
reading_on : (scope row : List ℕ) (p : Pair) → Contains (reading scope row) p → Contains scope p.variable
reading_on [] row p inside = absurd (Contains-nil p inside)
reading_on (x ∷ scope) [] p inside = absurd (Contains-nil p inside)
reading_on (x ∷ scope) (v ∷ row) p inside =
    by (Contains-cons_cases (record { variable = x; value = v }) p (reading scope row) inside)
    (reading_on scope row p)
  where
    by : (record { variable = x; value = v } ≡ p) ⊎ Contains (reading scope row) p
        → (Contains (reading scope row) p → Contains scope p.variable)
        → Contains (x ∷ scope) p.variable
    by (inl same) rest = subst (Contains (x ∷ scope)) (ap (λ (q : Pair). q.variable) same) (Contains-here x scope)
    by (inr later) rest = Contains-there x p.variable scope (rest later)

-- a row that is a case of the pairs on the scope is one of the whole nogood
case_on_scope : (scope row : List ℕ) (nogood : List Pair) → is_case scope (on_scope scope nogood) row ≡ true
    → is_case scope nogood row ≡ true
case_on_scope scope row nogood passes = test_from_case scope nogood row (λ k d inside.
    let p : Pair = get_or (reading scope row) k d in
    let read : Contains (reading scope row) p = Contains-get_or (reading scope row) k d inside in
    let agrees : All (Agree p) (reading scope row ++ on_scope scope nogood)
    = case_from_test scope (on_scope scope nogood) row passes k d inside in
    λ j e within same.
    let q : Pair = get_or (reading scope row ++ nogood) j e in
    All-contains (Agree p) (reading scope row ++ on_scope scope nogood) q agrees
    (kept p q (reading_on scope row p read) same
    (Contains-append_cases (reading scope row) nogood q
    (Contains-get_or (reading scope row ++ nogood) j e within))) same)
  where
    kept : (p q : Pair) → Contains scope p.variable → p.variable ≡ q.variable
        → Contains (reading scope row) q ⊎ Contains nogood q
        → Contains (reading scope row ++ on_scope scope nogood) q
    kept p q on same (inl read) = Contains-append_left (reading scope row) (on_scope scope nogood) q read
    kept p q on same (inr inside) =
        Contains-append_right (reading scope row) (on_scope scope nogood) q
        (in_filter (is_on scope) nogood q inside (is_on-true scope q (subst (Contains scope) same on)))

-- a constraint has a case of each small nogood that contains none of the log, where it has one of each on its scope
pub scope_cases : (lang : LanguageView) (inst : InstanceView) (most : ℕ) (log : List StepView) (c : ConstraintView)
    → HasScopeCases lang inst most log c
    → (nogood : List Pair) → IsSmall (length inst.variables) lang.domain most nogood → ¬ IsContradicted log nogood
    → HasCase lang c nogood
scope_cases lang inst most log c has nogood small free =
    let n : ℕ = length inst.variables in
    let some : List Pair = on_scope c.scope nogood in
    let is_small : IsSmall n lang.domain most some = record {
      is_nogood = record {
        pairs = All-filter (is_on c.scope) (IsPair n lang.domain) nogood small.is_nogood.pairs;
        ascending = AllPairs-filter (λ (p q : Pair). p.variable < q.variable)
            (is_on c.scope) nogood small.is_nogood.ascending;
      };
      few =
          let both = length-filter_both (is_on c.scope) (λ p. not (is_on c.scope p)) (λ p. refl) nogood in
          omega (arith, both, small.few);
    } in
    let on : All (λ p. Contains c.scope p.variable) some
    = All-weaker (λ p. is_on c.scope p ≡ true) (λ p. Contains c.scope p.variable) (true-is_on c.scope) some
    (filter_passes (is_on c.scope) nogood) in
    let inside : IsContained some nogood
    = All-filter (is_on c.scope) (Contains nogood) nogood (All-contains_itself nogood) in
    let case : HasCase lang c some
    = has some is_small on (λ found. free (contradicted_within log some nogood inside found)) in
    record { row = case.row; listed = case.listed; is = case_on_scope c.scope case.row nogood case.is }

-- ---- open values

-- a nogood of pairs that are all one pair has no other pairs
one_pair : (n d : ℕ) (nogood : List Pair) (p : Pair) → IsNogood n d nogood → nogood ≢ []
    → IsContained nogood (p ∷ []) → nogood ≡ p ∷ []
one_pair n d [] p is some within = absurd (some refl)
one_pair n d (q ∷ []) p is some within = by (Contains-cons_cases p q [] (within 0 q (omega arith)))
  where
    by : (p ≡ q) ⊎ Contains [] q → q ∷ [] ≡ p ∷ []
    by (inl same) = ap (λ (r : Pair). r ∷ []) (sym same)
    by (inr none) = absurd (Contains-nil q none)
one_pair n d (q ∷ r ∷ rest) p is some within =
    let less : q.variable < r.variable = is.ascending 0 1 q (omega arith) (omega arith) in
    let first : p.variable ≡ q.variable = by q (within 0 q (omega arith)) in
    let second : p.variable ≡ r.variable = by r (within 1 r (omega arith)) in
    absurd (omega (arith, less, first, second))
  where
    by : (s : Pair) → Contains (p ∷ []) s → p.variable ≡ s.variable
    by s inside = one (Contains-cons_cases p s [] inside)
      where
        one : (p ≡ s) ⊎ Contains [] s → p.variable ≡ s.variable
        one (inl same) = ap (λ (t : Pair). t.variable) same
        one (inr none) = absurd (Contains-nil s none)

-- where no step of a valid log is empty, a value that the log does not exclude by itself is open beside no pairs
left_is_open : (lang : LanguageView) (inst : InstanceView) (log : List StepView) → AreValid lang inst log
    → All (λ s. s.nogood ≢ []) log
    → (v : ℕ) → HasValue lang.domain log v → IsOpen lang.domain log [] v
left_is_open lang inst log valid nonempty v left = record {
  value = left.value;
  below = left.below;
  free = λ found.
      let nogood : List Pair = nogood_at log found.step in
      left.left found.step no_step found.known
      (one_pair (length inst.variables) lang.domain nogood (record { variable = v; value = left.value })
      (valid found.step found.known).placed.is_nogood
      (nonempty found.step no_step found.known) found.within);
}

-- ---- all of it

pub all_settled : (lang : LanguageView) (inst : InstanceView) (most : ℕ) (log : List StepView) → AreValid lang inst log
    → All (λ s. s.nogood ≢ []) log
    → AllOpen (length inst.variables) lang.domain most log
    → ((v : ℕ) → v < length inst.variables → HasValue lang.domain log v)
    → All (HasScopeCases lang inst most log) inst.constraints
    → AllSettled lang inst most log
all_settled lang inst most log valid nonempty open_values left cases nogood small free = record {
  cases = λ c d inside. scope_cases lang inst most log (get_or inst.constraints c d)
      (cases c d inside) nogood small free;
  values = by nogood small free;
}
  where
    by : (nogood : List Pair) → IsSmall (length inst.variables) lang.domain most nogood → ¬ IsContradicted log nogood
        → AreOpen (length inst.variables) lang.domain log nogood
    by [] small free = λ v known apart. left_is_open lang inst log valid nonempty v (left v known)
    by (p ∷ rest) small free = open_values (p ∷ rest) small (omega arith) free
