-- Where a log has its first fault, step by step, and that a log without a fault is a valid one.
use Rattle.std.proofs.Common.{◌≡◌, ℕ, zero, suc, ◌+◌, ◌-◌, ◌<◌, ◌≤◌, add-one, ◌⊎◌, inl, inr, Bool, true, false, if◌then◌else◌, List, [], ◌∷◌, ◌++◌, length, take, drop, Option, Some, None, refl, sym, ap, subst, ◌∙◌, arith}
use Rattle.std.proofs.lemmas.Bool.{true≢false, both_ways, cases_eq, false_from_ne_true}
use Rattle.std.proofs.lemmas.List.{length-take-le, take_more, drop_more, take_all, drop_all}
use Rattle.std.proofs.lemmas.Option.{none-some, same_Some}
use Rattle.pol_relation.specs.Relations.{LanguageView}
use Rattle.pol_relation.specs.Instances.{InstanceView}
use Rattle.pol_nogood.specs.declared.checking.Why.{Why}
use Rattle.pol_nogood.specs.declared.checking.Why.TheVariants as why
use Rattle.pol_nogood.specs.declared.checking.LogFault.{LogFault}
use Rattle.pol_nogood.specs.Nogoods.{Pair}
use Rattle.pol_nogood.specs.Logs.{StepView, no_step, step_at, nogood_at, last_nogood}
use Rattle.pol_nogood.specs.LogFaults.{step_fault, after_step, fault_from, log_fault, end_fault, is_empty, ends_empty}
use Rattle.pol_nogood.specs.ValidLogs.{IsValidStep, AreValidBelow, IsValidLog, HasNoEmptyEnd, HasFaultAt, IsFirstFault}
use Rattle.pol_nogood.proofs.StepFaults.{step_from_fault, fault_from_step, words_from_fault, fault_from_words}

-- a reader of the log that has passed its first i steps

-- one step on, from the first i steps
fault_from-at : (lang : LanguageView) (inst : InstanceView) (log : List StepView) (i : ℕ) → i < length log → fault_from lang inst (take i log) (drop i log) ≡ after_step i (step_fault lang inst (take i log) (step_at log i)) (fault_from lang inst (take (i + 1) log) (drop (i + 1) log))
fault_from-at lang inst log i inside =
    let s = step_at log i in
    ap (fault_from lang inst (take i log)) (drop_more log i no_step inside)
    ∙ (ap (λ number. after_step number (step_fault lang inst (take i log) s) (fault_from lang inst (take i log ++ s ∷ []) (drop (i + 1) log))) (length-take-le i log (omega arith))
    ∙ ap (λ front. after_step i (step_fault lang inst (take i log) s) (fault_from lang inst front (drop (i + 1) log))) (sym (take_more log i no_step inside)))

-- the first fault of the log is that of the steps behind the first i
abbrev pub IsPast : LanguageView → InstanceView → List StepView → ℕ → Type 0
IsPast lang inst log i = log_fault lang inst log ≡ fault_from lang inst (take i log) (drop i log)

pub past_none : (lang : LanguageView) (inst : InstanceView) (log : List StepView) → IsPast lang inst log 0
past_none lang inst log = refl

-- a step with this outcome decides, or leaves it to those behind it
pub past_step : (lang : LanguageView) (inst : InstanceView) (log : List StepView) (i : ℕ) (found : Option Why) → i < length log → step_fault lang inst (take i log) (step_at log i) ≡ found → IsPast lang inst log i → log_fault lang inst log ≡ after_step i found (fault_from lang inst (take (i + 1) log) (drop (i + 1) log))
past_step lang inst log i found inside is past =
    past ∙ (fault_from-at lang inst log i inside ∙ ap (λ one. after_step i one (fault_from lang inst (take (i + 1) log) (drop (i + 1) log))) is)

pub past_more : (lang : LanguageView) (inst : InstanceView) (log : List StepView) (i : ℕ) → i < length log → step_fault lang inst (take i log) (step_at log i) ≡ None → IsPast lang inst log i → IsPast lang inst log (i + 1)
past_more lang inst log i inside none past = past_step lang inst log i None inside none past

pub past_all : (lang : LanguageView) (inst : InstanceView) (log : List StepView) (i : ℕ) → length log ≤ i → IsPast lang inst log i → log_fault lang inst log ≡ end_fault log
past_all lang inst log i all past =
    past ∙ (ap (λ rest. fault_from lang inst (take i log) rest) (drop_all i log all) ∙ ap end_fault (take_all i log all))

-- the end

pub last_from_test : (log : List StepView) → ends_empty log ≡ true → (1 ≤ length log) × (last_nogood log ≡ [])
last_from_test [] passes = absurd (true≢false (sym passes))
last_from_test (s ∷ []) passes = (omega arith, by s.nogood passes)
  where
    by : (nogood : List Pair) → is_empty nogood ≡ true → nogood ≡ []
    by [] passes = refl
    by (p ∷ ps) passes = absurd (true≢false (sym passes))
last_from_test (s ∷ t ∷ rest) passes =
    let behind = last_from_test (t ∷ rest) passes in
    let place : suc (suc (length rest)) - 1 ≡ suc (suc (length rest) - 1) = omega arith in
    (omega arith, ap (nogood_at (s ∷ t ∷ rest)) place ∙ behind.1)

pub test_from_last : (log : List StepView) → 1 ≤ length log → last_nogood log ≡ [] → ends_empty log ≡ true
test_from_last [] some empty = absurd (omega arith)
test_from_last (s ∷ []) some empty = ap is_empty empty
test_from_last (s ∷ t ∷ rest) some empty =
    let place : suc (suc (length rest)) - 1 ≡ suc (suc (length rest) - 1) = omega arith in
    test_from_last (t ∷ rest) (omega arith) (sym (ap (nogood_at (s ∷ t ∷ rest)) place) ∙ empty)

no_end_from_test : (log : List StepView) → ends_empty log ≡ false → HasNoEmptyEnd log
no_end_from_test [] fails = inl refl
no_end_from_test (s ∷ rest) fails = inr (λ empty. both_ways (ends_empty (s ∷ rest)) fails (test_from_last (s ∷ rest) (omega arith) empty))

test_from_no_end : (log : List StepView) → HasNoEmptyEnd log → ends_empty log ≡ false
test_from_no_end log (inl none) = ap ends_empty none
test_from_no_end log (inr some) = false_from_ne_true (ends_empty log) (λ passes. some (last_from_test log passes).1)

abbrev fault_of_end : ℕ → Bool → Option LogFault
fault_of_end long ends = if ends then None else Some (record { step = long; why = why.NoEmptyEnd })

ends_from_none : (log : List StepView) → end_fault log ≡ None → ends_empty log ≡ true
ends_from_none log none = by (ends_empty log) none
  where
    by : (ends : Bool) → fault_of_end (length log) ends ≡ None → ends ≡ true
    by true none = refl
    by false none = absurd (none-some (record { step = length log; why = why.NoEmptyEnd }) (sym none))

end_from_fault : (log : List StepView) (fault : LogFault) → end_fault log ≡ Some fault → (ends_empty log ≡ false) × (record { step = length log; why = why.NoEmptyEnd } ≡ fault)
end_from_fault log fault found = by (ends_empty log) found
  where
    by : (ends : Bool) → fault_of_end (length log) ends ≡ Some fault → (ends ≡ false) × (record { step = length log; why = why.NoEmptyEnd } ≡ fault)
    by true found = absurd (none-some fault found)
    by false found = (refl, same_Some (record { step = length log; why = why.NoEmptyEnd }) fault found)

-- valid logs

nones : (number : ℕ) (found : Option Why) (next : Option LogFault) → after_step number found next ≡ None → (found ≡ None) × (next ≡ None)
nones number None next none = (refl, none)
nones number (Some why) next none = absurd (none-some (record { step = number; why = why }) (sym none))

past_from_none : (lang : LanguageView) (inst : InstanceView) (log : List StepView) → log_fault lang inst log ≡ None → (i : ℕ) → i ≤ length log → fault_from lang inst (take i log) (drop i log) ≡ None
past_from_none lang inst log none zero within = none
past_from_none lang inst log none (suc i) within =
    let before = past_from_none lang inst log none i (omega arith) in
    let parts = nones i (step_fault lang inst (take i log) (step_at log i)) (fault_from lang inst (take (i + 1) log) (drop (i + 1) log)) (sym (fault_from-at lang inst log i (omega arith)) ∙ before) in
    rw (← add-one) parts.1

pub valid_from_fault : (lang : LanguageView) (inst : InstanceView) (log : List StepView) → log_fault lang inst log ≡ None → IsValidLog lang inst log
valid_from_fault lang inst log none =
    let ends : end_fault log ≡ None = sym (past_all lang inst log (length log) (omega arith) (none ∙ sym (past_from_none lang inst log none (length log) (omega arith)))) ∙ none in
    let last = last_from_test log (ends_from_none log ends) in
    record {
      steps = λ i inside. step_from_fault lang inst (take i log) (step_at log i) (nones i (step_fault lang inst (take i log) (step_at log i)) (fault_from lang inst (take (i + 1) log) (drop (i + 1) log)) (sym (fault_from-at lang inst log i inside) ∙ past_from_none lang inst log none i (omega arith))).0;
      some_steps = last.0;
      last_is_empty = last.1;
    }

-- valid steps are passed
past_valid : (lang : LanguageView) (inst : InstanceView) (log : List StepView) (i : ℕ) → i ≤ length log → AreValidBelow lang inst log i → IsPast lang inst log i
past_valid lang inst log zero within valid = past_none lang inst log
past_valid lang inst log (suc i) within valid =
    let before = past_valid lang inst log i (omega arith) (λ k inside. valid k (omega arith)) in
    rw (← add-one) (past_more lang inst log i (omega arith) (fault_from_step lang inst (take i log) (step_at log i) (valid i (omega arith))) before)

pub fault_from_valid : (lang : LanguageView) (inst : InstanceView) (log : List StepView) → IsValidLog lang inst log → log_fault lang inst log ≡ None
fault_from_valid lang inst log is =
    let past = past_valid lang inst log (length log) (omega arith) is.steps in
    past_all lang inst log (length log) (omega arith) past
    ∙ ap (fault_of_end (length log)) (test_from_last log is.some_steps is.last_is_empty)

-- the first fault in words

valid_more : (lang : LanguageView) (inst : InstanceView) (log : List StepView) (i : ℕ) → AreValidBelow lang inst log i → IsValidStep lang inst (take i log) (step_at log i) → AreValidBelow lang inst log (i + 1)
valid_more lang inst log i before here = λ j less. by j less (cases_eq j i)
  where
    by : (j : ℕ) → j < i + 1 → (j ≡ i) ⊎ (j ≡ i → ⊥) → IsValidStep lang inst (take j log) (step_at log j)
    by j less (inl same) = subst (λ (m : ℕ). IsValidStep lang inst (take m log) (step_at log m)) (sym same) here
    by j less (inr other) = before j (omega arith)

first_at : (lang : LanguageView) (inst : InstanceView) (log : List StepView) (fault : LogFault) (k i : ℕ) → i + k ≡ length log → AreValidBelow lang inst log i → fault_from lang inst (take i log) (drop i log) ≡ Some fault → IsFirstFault lang inst log fault
first_at lang inst log fault zero i all before found =
    let past_end : fault_from lang inst (take i log) (drop i log) ≡ end_fault log = ap (λ rest. fault_from lang inst (take i log) rest) (drop_all i log (omega arith)) ∙ ap end_fault (take_all i log (omega arith)) in
    let ended = end_from_fault log fault (sym past_end ∙ found) in
    let first : IsFirstFault lang inst log (record { step = length log; why = why.NoEmptyEnd }) = record { before = λ j less. before j (omega arith); here = (refl, no_end_from_test log ended.0) } in
    subst (IsFirstFault lang inst log) ended.1 first
first_at lang inst log fault (suc k) i all before found =
    by (step_fault lang inst (take i log) (step_at log i)) refl (sym (fault_from-at lang inst log i (omega arith)) ∙ found)
    (λ valid rest. first_at lang inst log fault k (i + 1) (omega arith) valid rest)
  where
    by : (o : Option Why) → step_fault lang inst (take i log) (step_at log i) ≡ o → after_step i o (fault_from lang inst (take (i + 1) log) (drop (i + 1) log)) ≡ Some fault
        → (AreValidBelow lang inst log (i + 1) → fault_from lang inst (take (i + 1) log) (drop (i + 1) log) ≡ Some fault → IsFirstFault lang inst log fault) → IsFirstFault lang inst log fault
    by None is rest onwards = onwards (valid_more lang inst log i before (step_from_fault lang inst (take i log) (step_at log i) is)) rest
    by (Some reason) is here onwards =
        let first : IsFirstFault lang inst log (record { step = i; why = reason }) = record { before = λ j less. before j (omega arith); here = words_from_fault lang inst log i (omega arith) reason is } in
        subst (IsFirstFault lang inst log) (same_Some (record { step = i; why = reason }) fault here) first

-- the fault that is found is the first
pub first_from_fault : (lang : LanguageView) (inst : InstanceView) (log : List StepView) (fault : LogFault) → log_fault lang inst log ≡ Some fault → IsFirstFault lang inst log fault
first_from_fault lang inst log fault found = first_at lang inst log fault (length log) 0 (omega arith) (λ j less. absurd (omega arith)) found

module _ (lang : LanguageView) (inst : InstanceView) (log : List StepView) (i : ℕ) (before : AreValidBelow lang inst log i) where
  fault_at : (reason : Why) → i < length log → HasFaultAt lang inst log i reason → log_fault lang inst log ≡ Some (record { step = i; why = reason })
  fault_at reason inside has = past_step lang inst log i (Some reason) inside (fault_from_words lang inst log i inside reason has) (past_valid lang inst log i (omega arith) before)

  fault_here : (reason : Why) → HasFaultAt lang inst log i reason → log_fault lang inst log ≡ Some (record { step = i; why = reason })
  fault_here why.BadPlace has = fault_at why.BadPlace has.0 has
  fault_here why.BadReference has = fault_at why.BadReference has.0 has
  fault_here why.NotContained has = fault_at why.NotContained has.0 has
  fault_here why.WrongCount has = fault_at why.WrongCount has.0 has
  fault_here why.NoEmptyEnd has =
      past_all lang inst log i (omega (arith, has.0)) (past_valid lang inst log i (omega (arith, has.0)) before)
      ∙ (ap (fault_of_end (length log)) (test_from_no_end log has.1) ∙ ap (λ n. Some (record { step = n; why = why.NoEmptyEnd })) (sym has.0))

-- and the first fault is found
pub fault_from_first : (lang : LanguageView) (inst : InstanceView) (log : List StepView) (fault : LogFault) → IsFirstFault lang inst log fault → log_fault lang inst log ≡ Some fault
fault_from_first lang inst log fault first = fault_here lang inst log fault.step first.before fault.why first.here

pub first_faults_same : (lang : LanguageView) (inst : InstanceView) (log : List StepView) (fault other : LogFault) → IsFirstFault lang inst log fault → IsFirstFault lang inst log other → fault ≡ other
first_faults_same lang inst log fault other first second =
    same_Some fault other (sym (fault_from_first lang inst log fault first) ∙ fault_from_first lang inst log other second)
