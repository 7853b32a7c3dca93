-- The tests on nogoods, pairs and references, and what they say.
use Rattle.std.proofs.Common.{◌≡◌, true, false, eqb, ltb, [], refl, Bool, ℕ, zero, suc, ◌<◌, ◌≤◌, List, ◌∷◌, ◌++◌, length, get_or, All, AllPairs, Any, Contains, ◌≢◌, ◌⊎◌, inl, inr, ◌&&◌, not, sym, ap, subst, ◌∙◌, arith}
use Rattle.std.specs.List.{list_all, list_any}
use Rattle.std.proofs.lemmas.Bool.{and_parts, and_from, and_cases, eqb-true, eq-eqb, ne_eqb, ltb-true, ltb-false, lt-ltb, le-ltb, both_ways, true≢false, false_from_ne_true, not-true, not_from_false}
use Rattle.std.proofs.lemmas.List.Elements.{All-weaker, All-cons, All-nil}
use Rattle.std.proofs.lemmas.List.Folds.{Any-from_list_any, list_any_at, list_any_none, list_all_at}
use Rattle.std.proofs.lemmas.List.Kept.{AllPairs-cons}
use Rattle.std.proofs.lemmas.List.Sums.{AllPass-from_list_all, list_all-from_AllPass}
use Rattle.pol_nogood.specs.Nogoods.{Pair, IsPair, IsContained}
use Rattle.pol_nogood.specs.LogFaults.{same_pair, contained_in, pairs_placed, ascending_pairs, basis_placed, is_placed, refer_below, covered}
use Rattle.pol_nogood.specs.ValidLogs.{CanRestOn, IsPlaced, AreContained, HasUncontained}
use Rattle.pol_base.proofs.MemberLemmas.{AllPairs-nil, AllPairs-head, AllPairs-tail}
use Rattle.pol_relation.specs.Relations.{LanguageView}
use Rattle.pol_relation.specs.Instances.{InstanceView}
use Rattle.pol_nogood.specs.Logs.{Basis, StepView, nogood_at}

pub same_pair-true : (p q : Pair) → same_pair p q ≡ true → p ≡ q
same_pair-true p q same =
    let parts = and_parts (eqb p.variable q.variable) (eqb p.value q.value) same in
    let variables : p.variable ≡ q.variable = eqb-true p.variable q.variable parts.0 in
    let values : p.value ≡ q.value = eqb-true p.value q.value parts.1 in
    λ i. record { variable = variables i; value = values i }

pub same_pair-itself : (p : Pair) → same_pair p p ≡ true
same_pair-itself p = and_from (eqb p.variable p.variable) (eqb p.value p.value) (eq-eqb p.variable p.variable refl) (eq-eqb p.value p.value refl)

-- one test for all pairs of a list, in the words of its pairs

pub All-from_list_all : {X : Type 0} (test : X → Bool) (P : X → Type 0) → ((x : X) → test x ≡ true → P x) → (xs : List X) → list_all test xs ≡ true → All P xs
All-from_list_all test P says xs passes = All-weaker (λ x. test x ≡ true) P says xs (AllPass-from_list_all test xs passes)

pub list_all-from_All : {X : Type 0} (test : X → Bool) (P : X → Type 0) → ((x : X) → P x → test x ≡ true) → (xs : List X) → All P xs → list_all test xs ≡ true
list_all-from_All test P passes xs holds = list_all-from_AllPass test xs (All-weaker P (λ x. test x ≡ true) passes xs holds)

is_among : (others : List Pair) (p : Pair) → list_any (λ q. same_pair p q) others ≡ true → Contains others p
is_among others p passes =
    let found = Any-from_list_any (λ q. same_pair p q) others passes in
    let same : p ≡ found.1 = same_pair-true p found.1 found.4 in
    subst (λ (q : Pair). Contains others q) (sym same) (found.0, found.2, found.3)

among_is : (others : List Pair) (p : Pair) → Contains others p → list_any (λ q. same_pair p q) others ≡ true
among_is others p inside =
    list_any_at (λ q. same_pair p q) others inside.0 p inside.1 (subst (λ (q : Pair). same_pair p q ≡ true) (sym inside.2) (same_pair-itself p))

pub within_from_contained_in : (pairs others : List Pair) → contained_in pairs others ≡ true → IsContained pairs others
within_from_contained_in pairs others passes = All-from_list_all (λ p. list_any (λ q. same_pair p q) others) (Contains others) (is_among others) pairs passes

pub contained_in_from_within : (pairs others : List Pair) → IsContained pairs others → contained_in pairs others ≡ true
contained_in_from_within pairs others within = list_all-from_All (λ p. list_any (λ q. same_pair p q) others) (Contains others) (among_is others) pairs within

-- nogoods and bases that are placed right

pair_from_test : (n d : ℕ) (p : Pair) → (ltb p.variable n && ltb p.value d) ≡ true → IsPair n d p
pair_from_test n d p passes =
    let parts = and_parts (ltb p.variable n) (ltb p.value d) passes in
    record { variable_known = ltb-true p.variable n parts.0; value_known = ltb-true p.value d parts.1 }

test_from_pair : (n d : ℕ) (p : Pair) → IsPair n d p → (ltb p.variable n && ltb p.value d) ≡ true
test_from_pair n d p is = and_from (ltb p.variable n) (ltb p.value d) (lt-ltb p.variable n is.variable_known) (lt-ltb p.value d is.value_known)

pub pairs_from_placed : (n d : ℕ) (nogood : List Pair) → pairs_placed n d nogood ≡ true → All (IsPair n d) nogood
pairs_from_placed n d nogood passes = All-from_list_all (λ p. ltb p.variable n && ltb p.value d) (IsPair n d) (pair_from_test n d) nogood passes

pub placed_from_pairs : (n d : ℕ) (nogood : List Pair) → All (IsPair n d) nogood → pairs_placed n d nogood ≡ true
placed_from_pairs n d nogood pairs = list_all-from_All (λ p. ltb p.variable n && ltb p.value d) (IsPair n d) (test_from_pair n d) nogood pairs

-- the first variable of an ascending nogood is below all others
below_first : (p q : Pair) (rest : List Pair) → p.variable < q.variable → All (λ r. q.variable < r.variable) rest → All (λ r. p.variable < r.variable) (q ∷ rest)
below_first p q rest less more =
    All-cons (λ (r : Pair). p.variable < r.variable) q rest less (All-weaker (λ (r : Pair). q.variable < r.variable) (λ r. p.variable < r.variable) (λ r above. omega arith) rest more)

pub ascending_from_test : (nogood : List Pair) → ascending_pairs nogood ≡ true → AllPairs (λ p q. p.variable < q.variable) nogood
ascending_from_test [] passes = AllPairs-nil (λ (p q : Pair). p.variable < q.variable)
ascending_from_test (p ∷ []) passes = AllPairs-cons (λ (p q : Pair). p.variable < q.variable) p [] (All-nil (λ (q : Pair). p.variable < q.variable)) (AllPairs-nil (λ (p q : Pair). p.variable < q.variable))
ascending_from_test (p ∷ q ∷ rest) passes =
    let parts = and_parts (ltb p.variable q.variable) (ascending_pairs (q ∷ rest)) passes in
    let others = ascending_from_test (q ∷ rest) parts.1 in
    AllPairs-cons (λ (p q : Pair). p.variable < q.variable) p (q ∷ rest) (below_first p q rest (ltb-true p.variable q.variable parts.0) (AllPairs-head (λ (p q : Pair). p.variable < q.variable) q rest others)) others

pub test_from_ascending : (nogood : List Pair) → AllPairs (λ p q. p.variable < q.variable) nogood → ascending_pairs nogood ≡ true
test_from_ascending [] ascending = refl
test_from_ascending (p ∷ []) ascending = refl
test_from_ascending (p ∷ q ∷ rest) ascending =
    let others = test_from_ascending (q ∷ rest) (AllPairs-tail (λ (p q : Pair). p.variable < q.variable) p (q ∷ rest) ascending) in
    let less : p.variable < q.variable = ascending 0 1 p (omega arith) (omega arith) in
    and_from (ltb p.variable q.variable) (ascending_pairs (q ∷ rest)) (lt-ltb p.variable q.variable less) others

not_named : (v : ℕ) (nogood : List Pair) → list_any (λ p. eqb p.variable v) nogood ≡ false → All (λ p. p.variable ≢ v) nogood
not_named v nogood fails = λ k d inside same. both_ways (list_any (λ p. eqb p.variable v) nogood) fails (list_any_at (λ p. eqb p.variable v) nogood k d inside (eq-eqb (get_or nogood k d).variable v same))

named_nowhere : (v : ℕ) (nogood : List Pair) → All (λ p. p.variable ≢ v) nogood → list_any (λ p. eqb p.variable v) nogood ≡ false
named_nowhere v nogood apart = list_any_none (λ p. eqb p.variable v) nogood (λ k d inside. ne_eqb (get_or nogood k d).variable v (apart k d inside))

pub rests_from_placed : (inst : InstanceView) (nogood : List Pair) (g : Basis) → basis_placed inst g nogood ≡ true → CanRestOn inst nogood g
rests_from_placed inst nogood (Basis.ByConstraint c) passes = ltb-true c (length inst.constraints) passes
rests_from_placed inst nogood (Basis.ByVariable v) passes =
    let parts = and_parts (ltb v (length inst.variables)) (not (list_any (λ p. eqb p.variable v) nogood)) passes in
    (ltb-true v (length inst.variables) parts.0, not_named v nogood (not-true (list_any (λ p. eqb p.variable v) nogood) parts.1))

pub placed_from_rests : (inst : InstanceView) (nogood : List Pair) (g : Basis) → CanRestOn inst nogood g → basis_placed inst g nogood ≡ true
placed_from_rests inst nogood (Basis.ByConstraint c) known = lt-ltb c (length inst.constraints) known
placed_from_rests inst nogood (Basis.ByVariable v) known =
    and_from (ltb v (length inst.variables)) (not (list_any (λ p. eqb p.variable v) nogood)) (lt-ltb v (length inst.variables) known.0) (not_from_false (list_any (λ p. eqb p.variable v) nogood) (named_nowhere v nogood known.1))

-- places

pub placed_from_test : (lang : LanguageView) (inst : InstanceView) (s : StepView) → is_placed lang inst s ≡ true → IsPlaced lang inst s
placed_from_test lang inst s passes =
    let n = length inst.variables in
    let parts = and_parts (basis_placed inst s.basis s.nogood && pairs_placed n lang.domain s.nogood) (ascending_pairs s.nogood) passes in
    let first = and_parts (basis_placed inst s.basis s.nogood) (pairs_placed n lang.domain s.nogood) parts.0 in
    record {
      rests = rests_from_placed inst s.nogood s.basis first.0;
      is_nogood = record { pairs = pairs_from_placed n lang.domain s.nogood first.1; ascending = ascending_from_test s.nogood parts.1 };
    }

pub test_from_placed : (lang : LanguageView) (inst : InstanceView) (s : StepView) → IsPlaced lang inst s → is_placed lang inst s ≡ true
test_from_placed lang inst s is =
    let n = length inst.variables in
    let first = and_from (basis_placed inst s.basis s.nogood) (pairs_placed n lang.domain s.nogood) (placed_from_rests inst s.nogood s.basis is.rests) (placed_from_pairs n lang.domain s.nogood is.is_nogood.pairs) in
    and_from (basis_placed inst s.basis s.nogood && pairs_placed n lang.domain s.nogood) (ascending_pairs s.nogood) first (test_from_ascending s.nogood is.is_nogood.ascending)

-- references to earlier steps

pub below_from_test : (count : ℕ) (references : List ℕ) → refer_below count references ≡ true → All (λ r. r < count) references
below_from_test count references passes = All-from_list_all (λ r. ltb r count) (λ r. r < count) (λ r. ltb-true r count) references passes

pub test_from_below : (count : ℕ) (references : List ℕ) → All (λ r. r < count) references → refer_below count references ≡ true
test_from_below count references below = list_all-from_All (λ r. ltb r count) (λ r. r < count) (λ r. lt-ltb r count) references below

pub not_below_from_test : (count : ℕ) (references : List ℕ) → refer_below count references ≡ false → Any (λ r. count ≤ r) references
not_below_from_test count [] fails = absurd (true≢false fails)
not_below_from_test count (r ∷ references) fails = by (and_cases (ltb r count) (refer_below count references) fails) (λ later. not_below_from_test count references later)
  where
    by : (ltb r count ≡ false) ⊎ (refer_below count references ≡ false) → (refer_below count references ≡ false → Any (λ r. count ≤ r) references) → Any (λ r. count ≤ r) (r ∷ references)
    by (inl here) behind = (0, r, omega arith, refl, ltb-false r count here)
    by (inr later) behind = let rest = behind later in (suc rest.0, rest.1, omega (arith, rest.2), rest.3, rest.4)

pub test_from_not_below : (count : ℕ) (references : List ℕ) → Any (λ r. count ≤ r) references → refer_below count references ≡ false
test_from_not_below count references above = list_all_at (λ r. ltb r count) references above.0 above.1 above.2 (ap (λ r. ltb r count) above.3 ∙ le-ltb above.1 count above.4)

-- references that are covered, place by place
pub covers_from_test : (earlier : List StepView) (nogood : List Pair) (cases : List (List Pair)) (references : List ℕ) → covered earlier nogood cases references ≡ true → AreContained earlier nogood cases references
covers_from_test earlier nogood [] references passes = λ i within inside. absurd (omega arith)
covers_from_test earlier nogood (one ∷ cases) [] passes = λ i within inside. absurd (omega arith)
covers_from_test earlier nogood (one ∷ cases) (r ∷ references) passes =
    let parts = and_parts (contained_in (nogood_at earlier r) (nogood ++ one)) (covered earlier nogood cases references) passes in
    at (within_from_contained_in (nogood_at earlier r) (nogood ++ one) parts.0) (covers_from_test earlier nogood cases references parts.1)
  where
    at : IsContained (nogood_at earlier r) (nogood ++ one) → AreContained earlier nogood cases references → AreContained earlier nogood (one ∷ cases) (r ∷ references)
    at first others zero within inside = first
    at first others (suc i) within inside = others i (omega arith) (omega arith)

pub test_from_covers : (earlier : List StepView) (nogood : List Pair) (cases : List (List Pair)) (references : List ℕ) → AreContained earlier nogood cases references → covered earlier nogood cases references ≡ true
test_from_covers earlier nogood [] references covers = refl
test_from_covers earlier nogood (one ∷ cases) [] covers = refl
test_from_covers earlier nogood (one ∷ cases) (r ∷ references) covers =
    let rest = test_from_covers earlier nogood cases references (λ i within inside. covers (suc i) (omega arith) (omega arith)) in
    and_from (contained_in (nogood_at earlier r) (nogood ++ one)) (covered earlier nogood cases references) (contained_in_from_within (nogood_at earlier r) (nogood ++ one) (covers 0 (omega arith) (omega arith))) rest

-- the first reference of a case that is not contained, where the test fails
pub uncontained_from_test : (earlier : List StepView) (nogood : List Pair) (cases : List (List Pair)) (references : List ℕ) → covered earlier nogood cases references ≡ false → HasUncontained earlier nogood cases references
uncontained_from_test earlier nogood [] references fails = absurd (true≢false fails)
uncontained_from_test earlier nogood (one ∷ cases) [] fails = absurd (true≢false fails)
uncontained_from_test earlier nogood (one ∷ cases) (r ∷ references) fails =
    by (and_cases (contained_in (nogood_at earlier r) (nogood ++ one)) (covered earlier nogood cases references) fails) (λ later. uncontained_from_test earlier nogood cases references later)
  where
    by : (contained_in (nogood_at earlier r) (nogood ++ one) ≡ false) ⊎ (covered earlier nogood cases references ≡ false) → (covered earlier nogood cases references ≡ false → HasUncontained earlier nogood cases references) → HasUncontained earlier nogood (one ∷ cases) (r ∷ references)
    by (inl here) behind = record {
      place = 0;
      referred = omega arith;
      is_case = omega arith;
      not_contained = λ contained. both_ways (contained_in (nogood_at earlier r) (nogood ++ one)) here (contained_in_from_within (nogood_at earlier r) (nogood ++ one) contained);
    }
    by (inr later) behind =
        let rest = behind later in
        record { place = suc rest.place; referred = omega (arith, rest.referred); is_case = omega (arith, rest.is_case); not_contained = rest.not_contained }

pub test_from_uncontained : (earlier : List StepView) (nogood : List Pair) (cases : List (List Pair)) (references : List ℕ) → HasUncontained earlier nogood cases references → covered earlier nogood cases references ≡ false
test_from_uncontained earlier nogood cases references has =
    false_from_ne_true (covered earlier nogood cases references) (λ passes. has.not_contained (covers_from_test earlier nogood cases references passes has.place has.referred has.is_case))
