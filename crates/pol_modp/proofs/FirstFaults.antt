-- The fault that is found is the first in words, and no other is.
use Rattle.std.proofs.Common.{◌≡◌, ℕ, ◌%◌, ◌<◌, ◌⊎◌, inl, inr, Bool, true, false, not, eqb, List, length, get_or, take, Option, Some, None, All, refl, sym, ap, ◌∙◌, subst, arith}
use Rattle.std.proofs.lemmas.Bool.{both_ways, false_from_ne_true, eqb-true, eqb-false, eq-eqb, ne_eqb}
use Rattle.std.proofs.lemmas.List.{get_or-take, length-take-le}
use Rattle.std.proofs.lemmas.List.FromFn.{length-range_with_len}
use Rattle.std.proofs.lemmas.Option.{none-some, same_Some}
use Rattle.pol_relation.specs.Relations.{LanguageView}
use Rattle.pol_relation.specs.Instances.{InstanceView}
use Rattle.pol_modp.specs.declared.checking.CombFault.{CombFault}
use Rattle.pol_modp.specs.declared.checking.CombFault.TheVariants as fault
use Rattle.pol_modp.specs.Combinations.{PartView, no_part, CombinationView, sum_at, sum_right}
use Rattle.pol_modp.specs.ValidCombinations.{AreLabels, IsPlaced, IsImplied, IsZeroAt, ArePlaced, AreImplied, IsBalanced, IsFirstWithout, IsFirstRemainder, IsFirstFault}
use Rattle.pol_modp.specs.CombinationFaults.{are_labels, part_placed, part_implied, is_zero_at, variables_of, first_failing, fault_at, fault_unless, combination_fault}
use Rattle.pol_modp.proofs.FirstFailing.{first_failing-some, first_failing-none, first_failing-all, first_failing-at, All-from_list_all, list_all-from_All}
use Rattle.pol_modp.proofs.CombinationTests.{placed_from_test, test_from_placed, implied_from_test, test_from_implied, labels_from_test, test_from_labels, zeros_from_test, test_from_zeros, number_at, number_from}
use Rattle.pol_modp.proofs.CombinationTests.{placed_from_first, implied_from_first, first_from_placed, first_from_implied, place_test, row_test, zero_test, after_labels, after_places, after_rows, after_sums}

-- where a chain of tests has a fault, the first test fails or those behind it have the fault

unless_some : (passes : Bool) (which : CombFault) (next : Option CombFault) (found : CombFault) → fault_unless passes which next ≡ Some found → ((passes ≡ false) × (which ≡ found)) ⊎ ((passes ≡ true) × (next ≡ Some found))
unless_some true which next found is = inr (refl, is)
unless_some false which next found is = inl (refl, same_Some which found is)

at_some : (first : Option ℕ) (which : ℕ → CombFault) (next : Option CombFault) (found : CombFault) → fault_at first which next ≡ Some found → ((k : ℕ) × (first ≡ Some k) × (which k ≡ found)) ⊎ ((first ≡ None) × (next ≡ Some found))
at_some None which next found is = inr (refl, is)
at_some (Some k) which next found is = inl (k, refl, same_Some (which k) found is)

-- the first part that fails a test, in words
without : (test : PartView → Bool) (P : PartView → Type 0) (parts : List PartView) (k : ℕ) → ((part : PartView) → test part ≡ true → P part) → ((part : PartView) → P part → test part ≡ true) → first_failing test parts ≡ Some k → IsFirstWithout P parts k
without test P parts k says passes found =
    let first = first_failing-some test parts k no_part found in
    record {
      known = first.known;
      before = All-from_list_all test P says (take k parts) first.before;
      here = λ holds. both_ways (test (get_or parts k no_part)) first.here (passes (get_or parts k no_part) holds);
    }

module _ (lang : LanguageView) (inst : InstanceView) (c : CombinationView) (found : CombFault) where
  remainder_at : (v : ℕ) → first_failing (is_zero_at lang inst c.parts) (variables_of inst) ≡ Some v → IsFirstRemainder lang inst c.parts v
  remainder_at v first =
      let n = length inst.variables in
      let test = is_zero_at lang inst c.parts in
      let at = first_failing-some test (variables_of inst) v 0 first in
      let known : v < n = omega (arith, at.known, length-range_with_len 0 n) in
      let zeros = All-from_list_all test (IsZeroAt lang inst c.parts) (λ u. eqb-true (sum_at inst c.parts u % lang.domain) 0) (take v (variables_of inst)) at.before in
      record {
        known = known;
        before = λ u less.
            subst (IsZeroAt lang inst c.parts) (get_or-take v (variables_of inst) u 0 less ∙ number_at n u (omega (arith, less, known)))
            (zeros u 0 (omega (arith, less, length-take-le v (variables_of inst) (omega (arith, at.known)))));
        here = λ vanishes. eqb-false (sum_at inst c.parts v % lang.domain) 0 (sym (ap test (number_at n v known)) ∙ at.here) vanishes;
      }

  at_the_end : IsBalanced lang inst c → after_sums lang inst c ≡ Some found → IsFirstFault lang inst c found
  at_the_end balanced is = by (eqb (sum_right c.parts % lang.domain) 0) refl is
    where
      by : (zeros : Bool) → eqb (sum_right c.parts % lang.domain) 0 ≡ zeros → fault_unless (not zeros) fault.ZeroRight None ≡ Some found → IsFirstFault lang inst c found
      by false nonzero is = absurd (none-some found is)
      by true vanishes is = subst (IsFirstFault lang inst c) (same_Some fault.ZeroRight found is) (balanced, eqb-true (sum_right c.parts % lang.domain) 0 vanishes)

  at_variables : AreImplied lang inst c → after_rows lang inst c ≡ Some found → IsFirstFault lang inst c found
  at_variables implied is = by (at_some (zero_test lang inst c) fault.Remainder (after_sums lang inst c) found is)
    where
      by : ((k : ℕ) × (zero_test lang inst c ≡ Some k) × (fault.Remainder k ≡ found)) ⊎ ((zero_test lang inst c ≡ None) × (after_sums lang inst c ≡ Some found)) → IsFirstFault lang inst c found
      by (inl at) = subst (IsFirstFault lang inst c) at.2 (implied, remainder_at at.0 at.1)
      by (inr none) = at_the_end (record { are_implied = implied; coefs_zero = zeros_from_test lang inst c.parts (first_failing-none (is_zero_at lang inst c.parts) (variables_of inst) none.0) }) none.1

  at_rows : ArePlaced lang inst c → after_places lang inst c ≡ Some found → IsFirstFault lang inst c found
  at_rows placed is = by (at_some (row_test lang inst c) fault.NotImplied (after_rows lang inst c) found is)
    where
      by : ((k : ℕ) × (row_test lang inst c ≡ Some k) × (fault.NotImplied k ≡ found)) ⊎ ((row_test lang inst c ≡ None) × (after_rows lang inst c ≡ Some found)) → IsFirstFault lang inst c found
      by (inl at) = subst (IsFirstFault lang inst c) at.2 (placed, without (part_implied lang inst c.labels) (IsImplied lang inst c.labels) c.parts at.0 (implied_from_test lang inst c.labels) (test_from_implied lang inst c.labels) at.1)
      by (inr none) =
          at_variables (record {
            are_placed = placed;
            implied = implied_from_first lang inst c.labels c.parts none.0;
          }) none.1

  at_parts : AreLabels lang.domain c.labels → after_labels lang inst c ≡ Some found → IsFirstFault lang inst c found
  at_parts labels is = by (at_some (place_test lang inst c) fault.BadPlace (after_places lang inst c) found is)
    where
      by : ((k : ℕ) × (place_test lang inst c ≡ Some k) × (fault.BadPlace k ≡ found)) ⊎ ((place_test lang inst c ≡ None) × (after_places lang inst c ≡ Some found)) → IsFirstFault lang inst c found
      by (inl at) = subst (IsFirstFault lang inst c) at.2 (labels, without (part_placed lang inst) (IsPlaced lang inst) c.parts at.0 (placed_from_test lang inst) (test_from_placed lang inst) at.1)
      by (inr none) =
          at_rows (record {
            labels = labels;
            placed = placed_from_first lang inst c.parts none.0;
          }) none.1

  pub first_from_fault : combination_fault lang inst c ≡ Some found → IsFirstFault lang inst c found
  first_from_fault is = by (unless_some (are_labels lang.domain c.labels) fault.BadLabels (after_labels lang inst c) found is)
    where
      by : ((are_labels lang.domain c.labels ≡ false) × (fault.BadLabels ≡ found)) ⊎ ((are_labels lang.domain c.labels ≡ true) × (after_labels lang inst c ≡ Some found)) → IsFirstFault lang inst c found
      by (inl at) = subst (IsFirstFault lang inst c) at.1 (λ labels. both_ways (are_labels lang.domain c.labels) at.0 (test_from_labels lang.domain c.labels labels))
      by (inr passed) = at_parts (labels_from_test lang.domain c.labels passed.0) passed.1

-- and the first in words is the one that is found

-- the first part without the property fails the test, and those before it pass
first_without : (test : PartView → Bool) (P : PartView → Type 0) (parts : List PartView) (k : ℕ) → ((part : PartView) → test part ≡ true → P part) → ((part : PartView) → P part → test part ≡ true) → IsFirstWithout P parts k → first_failing test parts ≡ Some k
first_without test P parts k says passes first =
    first_failing-at test parts k no_part first.known (list_all-from_All test P passes (take k parts) first.before)
    (false_from_ne_true (test (get_or parts k no_part)) (λ passed. first.here (says (get_or parts k no_part) passed)))

module _ (lang : LanguageView) (inst : InstanceView) (c : CombinationView) where
  past_labels : AreLabels lang.domain c.labels → combination_fault lang inst c ≡ after_labels lang inst c
  past_labels labels = ap (λ passes. fault_unless passes fault.BadLabels (after_labels lang inst c)) (test_from_labels lang.domain c.labels labels)

  past_places : ArePlaced lang inst c → combination_fault lang inst c ≡ after_places lang inst c
  past_places are = past_labels are.labels ∙ ap (λ first. fault_at first fault.BadPlace (after_places lang inst c)) (first_from_placed lang inst c.parts are.placed)

  past_rows : AreImplied lang inst c → combination_fault lang inst c ≡ after_rows lang inst c
  past_rows are = past_places are.are_placed ∙ ap (λ first. fault_at first fault.NotImplied (after_rows lang inst c)) (first_from_implied lang inst c.labels c.parts are.implied)

  past_zeros : IsBalanced lang inst c → combination_fault lang inst c ≡ after_sums lang inst c
  past_zeros is = past_rows is.are_implied ∙ ap (λ first. fault_at first fault.Remainder (after_sums lang inst c)) (first_failing-all (is_zero_at lang inst c.parts) (variables_of inst) (test_from_zeros lang inst c.parts is.coefs_zero))

  first_remainder : (v : ℕ) → IsFirstRemainder lang inst c.parts v → first_failing (is_zero_at lang inst c.parts) (variables_of inst) ≡ Some v
  first_remainder v first =
      let n = length inst.variables in
      let test = is_zero_at lang inst c.parts in
      let inside : v < length (variables_of inst) = omega (arith, first.known, length-range_with_len 0 n) in
      let zeros : All (IsZeroAt lang inst c.parts) (take v (variables_of inst)) = λ u e less.
      let low : u < v = omega (arith, less, length-take-le v (variables_of inst) (omega (arith, inside))) in
      subst (IsZeroAt lang inst c.parts) (sym (get_or-take v (variables_of inst) u e low ∙ number_from n u e (omega (arith, low, first.known)))) (first.before u low) in
      let fails = ap test (number_at n v first.known) ∙ ne_eqb (sum_at inst c.parts v % lang.domain) 0 first.here in
      first_failing-at test (variables_of inst) v 0 inside (list_all-from_All test (IsZeroAt lang inst c.parts) (λ u. eq-eqb (sum_at inst c.parts u % lang.domain) 0) (take v (variables_of inst)) zeros) fails

  pub fault_from_first : (found : CombFault) → IsFirstFault lang inst c found → combination_fault lang inst c ≡ Some found
  fault_from_first fault.BadLabels first = ap (λ passes. fault_unless passes fault.BadLabels (after_labels lang inst c)) (false_from_ne_true (are_labels lang.domain c.labels) (λ passes. first (labels_from_test lang.domain c.labels passes)))
  fault_from_first (fault.BadPlace k) first =
      past_labels first.0 ∙ ap (λ at. fault_at at fault.BadPlace (after_places lang inst c)) (first_without (part_placed lang inst) (IsPlaced lang inst) c.parts k (placed_from_test lang inst) (test_from_placed lang inst) first.1)
  fault_from_first (fault.NotImplied k) first =
      past_places first.0 ∙ ap (λ at. fault_at at fault.NotImplied (after_rows lang inst c)) (first_without (part_implied lang inst c.labels) (IsImplied lang inst c.labels) c.parts k (implied_from_test lang inst c.labels) (test_from_implied lang inst c.labels) first.1)
  fault_from_first (fault.Remainder v) first = past_rows first.0 ∙ ap (λ at. fault_at at fault.Remainder (after_sums lang inst c)) (first_remainder v first.1)
  fault_from_first fault.ZeroRight first = past_zeros first.0 ∙ ap (λ zeros. fault_unless (not zeros) fault.ZeroRight None) (eq-eqb (sum_right c.parts % lang.domain) 0 first.1)

pub first_faults_same : (lang : LanguageView) (inst : InstanceView) (c : CombinationView) (found other : CombFault) → IsFirstFault lang inst c found → IsFirstFault lang inst c other → found ≡ other
first_faults_same lang inst c found other first second = same_Some found other (sym (fault_from_first lang inst c found first) ∙ fault_from_first lang inst c other second)
