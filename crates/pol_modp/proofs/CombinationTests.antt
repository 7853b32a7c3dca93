-- A combination is valid exactly where no fault is found.
use Rattle.std.proofs.Common.{◌≡◌, ℕ, ◌+◌, ◌%◌, ◌<◌, Bool, true, false, not, ◌&&◌, eqb, ltb, List, length, get_or, Option, Some, None, All, refl, sym, ap, ◌∙◌, subst, arith}
use Rattle.std.specs.List.{list_all, range_with_len}
use Rattle.std.proofs.lemmas.Bool.{true≢false, and_parts, and_from, ltb-true, lt-ltb, eqb-true, eqb-false, eq-eqb, ne_eqb}
use Rattle.std.proofs.lemmas.List.FromFn.{length-range_with_len, get_or-range_with_len}
use Rattle.std.proofs.lemmas.Option.{none-some}
use Rattle.pol_relation.specs.Relations.{LanguageView}
use Rattle.pol_relation.specs.Instances.{InstanceView}
use Rattle.pol_modp.specs.declared.checking.CombFault.{CombFault}
use Rattle.pol_modp.specs.declared.checking.CombFault.TheVariants as fault
use Rattle.pol_modp.specs.Equations.{dot, MeetsEquation}
use Rattle.pol_modp.specs.Combinations.{PartView, CombinationView, equation_of, labels_of, rows_at, arity_at, sum_at, sum_right}
use Rattle.pol_modp.specs.ValidCombinations.{AreLabels, IsPlaced, IsImplied, IsZeroAt, IsValidCombination}
use Rattle.pol_modp.specs.CombinationFaults.{variables_of, are_below, are_labels, part_placed, row_meets, part_implied, is_zero_at, first_failing, fault_at, fault_unless, combination_fault}
use Rattle.pol_modp.proofs.FirstFailing.{All-from_list_all, list_all-from_All, first_failing-none, first_failing-all}

-- the tests of a combination

pub placed_from_test : (lang : LanguageView) (inst : InstanceView) (part : PartView) → part_placed lang inst part ≡ true → IsPlaced lang inst part
placed_from_test lang inst part passes =
    let known = ltb part.constraint (length inst.constraints) in
    let many = eqb (length part.coefs) (arity_at lang inst part.constraint) in
    let multiplier = ltb part.multiplier lang.domain in
    let right = ltb part.right lang.domain in
    let with_coefs = and_parts (known && many && multiplier && right) (are_below lang.domain part.coefs) passes in
    let with_right = and_parts (known && many && multiplier) right with_coefs.0 in
    let with_multiplier = and_parts (known && many) multiplier with_right.0 in
    let with_many = and_parts known many with_multiplier.0 in
    record {
      known = ltb-true part.constraint (length inst.constraints) with_many.0;
      as_many = eqb-true (length part.coefs) (arity_at lang inst part.constraint) with_many.1;
      multiplier_below = ltb-true part.multiplier lang.domain with_multiplier.1;
      right_below = ltb-true part.right lang.domain with_right.1;
      coefs_below = All-from_list_all (λ a. ltb a lang.domain) (λ a. a < lang.domain) (λ a. ltb-true a lang.domain) part.coefs with_coefs.1;
    }

pub test_from_placed : (lang : LanguageView) (inst : InstanceView) (part : PartView) → IsPlaced lang inst part → part_placed lang inst part ≡ true
test_from_placed lang inst part is =
    let known = ltb part.constraint (length inst.constraints) in
    let many = eqb (length part.coefs) (arity_at lang inst part.constraint) in
    let multiplier = ltb part.multiplier lang.domain in
    let right = ltb part.right lang.domain in
    and_from (known && many && multiplier && right) (are_below lang.domain part.coefs)
    (and_from (known && many && multiplier) right
    (and_from (known && many) multiplier
    (and_from known many (lt-ltb part.constraint (length inst.constraints) is.known) (eq-eqb (length part.coefs) (arity_at lang inst part.constraint) is.as_many))
    (lt-ltb part.multiplier lang.domain is.multiplier_below))
    (lt-ltb part.right lang.domain is.right_below))
    (list_all-from_All (λ a. ltb a lang.domain) (λ a. a < lang.domain) (λ a. lt-ltb a lang.domain) part.coefs is.coefs_below)

pub implied_from_test : (lang : LanguageView) (inst : InstanceView) (labels : List ℕ) (part : PartView) → part_implied lang inst labels part ≡ true → IsImplied lang inst labels part
implied_from_test lang inst labels part passes =
    let d = lang.domain in
    All-from_list_all (row_meets d labels part) (λ row. MeetsEquation d (labels_of labels row) (equation_of part)) (λ row. eqb-true (dot part.coefs (labels_of labels row) % d) (part.right % d)) (rows_at lang inst part.constraint) passes

pub test_from_implied : (lang : LanguageView) (inst : InstanceView) (labels : List ℕ) (part : PartView) → IsImplied lang inst labels part → part_implied lang inst labels part ≡ true
test_from_implied lang inst labels part is =
    let d = lang.domain in
    list_all-from_All (row_meets d labels part) (λ row. MeetsEquation d (labels_of labels row) (equation_of part)) (λ row. eq-eqb (dot part.coefs (labels_of labels row) % d) (part.right % d)) (rows_at lang inst part.constraint) is

pub placed_from_first : (lang : LanguageView) (inst : InstanceView) (parts : List PartView) → first_failing (part_placed lang inst) parts ≡ None → All (IsPlaced lang inst) parts
placed_from_first lang inst parts none = All-from_list_all (part_placed lang inst) (IsPlaced lang inst) (placed_from_test lang inst) parts (first_failing-none (part_placed lang inst) parts none)

pub implied_from_first : (lang : LanguageView) (inst : InstanceView) (labels : List ℕ) (parts : List PartView) → first_failing (part_implied lang inst labels) parts ≡ None → All (IsImplied lang inst labels) parts
implied_from_first lang inst labels parts none = All-from_list_all (part_implied lang inst labels) (IsImplied lang inst labels) (implied_from_test lang inst labels) parts (first_failing-none (part_implied lang inst labels) parts none)

pub first_from_placed : (lang : LanguageView) (inst : InstanceView) (parts : List PartView) → All (IsPlaced lang inst) parts → first_failing (part_placed lang inst) parts ≡ None
first_from_placed lang inst parts are = first_failing-all (part_placed lang inst) parts (list_all-from_All (part_placed lang inst) (IsPlaced lang inst) (test_from_placed lang inst) parts are)

pub first_from_implied : (lang : LanguageView) (inst : InstanceView) (labels : List ℕ) (parts : List PartView) → All (IsImplied lang inst labels) parts → first_failing (part_implied lang inst labels) parts ≡ None
first_from_implied lang inst labels parts are = first_failing-all (part_implied lang inst labels) parts (list_all-from_All (part_implied lang inst labels) (IsImplied lang inst labels) (test_from_implied lang inst labels) parts are)

pub labels_from_test : (d : ℕ) (labels : List ℕ) → are_labels d labels ≡ true → AreLabels d labels
labels_from_test d labels passes =
    let parts = and_parts (eqb (length labels) d) (are_below d labels) passes in
    record { many = eqb-true (length labels) d parts.0; below = All-from_list_all (λ l. ltb l d) (λ l. l < d) (λ l. ltb-true l d) labels parts.1 }

pub test_from_labels : (d : ℕ) (labels : List ℕ) → AreLabels d labels → are_labels d labels ≡ true
test_from_labels d labels are =
    and_from (eqb (length labels) d) (are_below d labels) (eq-eqb (length labels) d are.many)
    (list_all-from_All (λ l. ltb l d) (λ l. l < d) (λ l. lt-ltb l d) labels are.below)

-- the numbers of the variables are the numbers below their count
pub number_from : (n v e : ℕ) → v < n → get_or (range_with_len 0 n) v e ≡ v
number_from n v e inside = get_or-range_with_len 0 n v e inside ∙ plain v
  where
    plain : (v : ℕ) → 0 + v ≡ v
    plain v = omega arith

pub number_at : (n v : ℕ) → v < n → get_or (range_with_len 0 n) v 0 ≡ v
number_at n v inside = number_from n v 0 inside

module _ (lang : LanguageView) (inst : InstanceView) (parts : List PartView) where
  abbrev n : ℕ
  n = length inst.variables

  abbrev test : ℕ → Bool
  test = is_zero_at lang inst parts

  pub zeros_from_test : list_all test (variables_of inst) ≡ true → (v : ℕ) → v < n → IsZeroAt lang inst parts v
  zeros_from_test passes v inside =
      let all = All-from_list_all test (IsZeroAt lang inst parts) (λ u. eqb-true (sum_at inst parts u % lang.domain) 0) (variables_of inst) passes in
      subst (IsZeroAt lang inst parts) (number_at n v inside) (all v 0 (omega (arith, inside, length-range_with_len 0 n)))

  pub test_from_zeros : ((v : ℕ) → v < n → IsZeroAt lang inst parts v) → list_all test (variables_of inst) ≡ true
  test_from_zeros zeros =
      list_all-from_All test (IsZeroAt lang inst parts) (λ u. eq-eqb (sum_at inst parts u % lang.domain) 0) (variables_of inst) at_zero
    where
      at_zero : All (IsZeroAt lang inst parts) (variables_of inst)
      at_zero = λ k e inside.
          let low : k < n = omega (arith, inside, length-range_with_len 0 n) in
          subst (IsZeroAt lang inst parts) (sym (number_from n k e low)) (zeros k low)

-- a chain of tests without a fault passes each, and so the other way

without_none : (b : Bool) (which : CombFault) (next : Option CombFault) → fault_unless b which next ≡ None → (b ≡ true) × (next ≡ None)
without_none true which next none = (refl, none)
without_none false which next none = absurd (none-some which (sym none))

at_none : (found : Option ℕ) (which : ℕ → CombFault) (next : Option CombFault) → fault_at found which next ≡ None → (found ≡ None) × (next ≡ None)
at_none None which next none = (refl, none)
at_none (Some k) which next none = absurd (none-some (which k) (sym none))

not_passes : (b : Bool) → not b ≡ true → b ≡ false
not_passes false passes = refl
not_passes true passes = absurd (true≢false (sym passes))

-- where each test passes there is no fault
no_fault : (labels : Bool) (placed implied zeros : Option ℕ) (right : Bool) → labels ≡ true → placed ≡ None → implied ≡ None → zeros ≡ None → right ≡ true
    → fault_unless labels fault.BadLabels (fault_at placed fault.BadPlace (fault_at implied fault.NotImplied (fault_at zeros fault.Remainder (fault_unless right fault.ZeroRight None)))) ≡ None
no_fault labels placed implied zeros right a b c d e = rw (a, b, c, d, e) refl

-- the tests of a combination, and what comes behind each
module _ (lang : LanguageView) (inst : InstanceView) (c : CombinationView) where
  abbrev pub right_test : Bool
  right_test = not (eqb (sum_right c.parts % lang.domain) 0)

  abbrev pub after_sums : Option CombFault
  after_sums = fault_unless right_test fault.ZeroRight None

  abbrev pub zero_test : Option ℕ
  zero_test = first_failing (is_zero_at lang inst c.parts) (variables_of inst)

  abbrev pub after_rows : Option CombFault
  after_rows = fault_at zero_test fault.Remainder after_sums

  abbrev pub row_test : Option ℕ
  row_test = first_failing (part_implied lang inst c.labels) c.parts

  abbrev pub after_places : Option CombFault
  after_places = fault_at row_test fault.NotImplied after_rows

  abbrev pub place_test : Option ℕ
  place_test = first_failing (part_placed lang inst) c.parts

  abbrev pub after_labels : Option CombFault
  after_labels = fault_at place_test fault.BadPlace after_places

  pub valid_from_fault : combination_fault lang inst c ≡ None → IsValidCombination lang inst c
  valid_from_fault none =
      let labels = without_none (are_labels lang.domain c.labels) fault.BadLabels after_labels none in
      let places = at_none place_test fault.BadPlace after_places labels.1 in
      let rows = at_none row_test fault.NotImplied after_rows places.1 in
      let zeros = at_none zero_test fault.Remainder after_sums rows.1 in
      let right = without_none right_test fault.ZeroRight None zeros.1 in
      record {
        labels = labels_from_test lang.domain c.labels labels.0;
        placed = placed_from_first lang inst c.parts places.0;
        implied = implied_from_first lang inst c.labels c.parts rows.0;
        coefs_zero = zeros_from_test lang inst c.parts (first_failing-none (is_zero_at lang inst c.parts) (variables_of inst) zeros.0);
        right_nonzero = eqb-false (sum_right c.parts % lang.domain) 0 (not_passes (eqb (sum_right c.parts % lang.domain) 0) right.0);
      }

  pub fault_from_valid : IsValidCombination lang inst c → combination_fault lang inst c ≡ None
  fault_from_valid is =
      let labels = test_from_labels lang.domain c.labels is.labels in
      let places = first_from_placed lang inst c.parts is.placed in
      let rows = first_from_implied lang inst c.labels c.parts is.implied in
      let zeros = first_failing-all (is_zero_at lang inst c.parts) (variables_of inst) (test_from_zeros lang inst c.parts is.coefs_zero) in
      let right = ap not (ne_eqb (sum_right c.parts % lang.domain) 0 is.right_nonzero) in
      no_fault (are_labels lang.domain c.labels) place_test row_test zero_test right_test labels places rows zeros right
