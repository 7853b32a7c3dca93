-- The first fault of a step: what its four tests tell, in words and as a checker makes them.
use Rattle.std.proofs.Common.{◌≡◌, ℕ, ◌<◌, ◌≤◌, Bool, true, false, eqb, List, [], ◌∷◌, ◌++◌, ◌&&◌, length, take, All, Option, Some, None, refl, sym, ap, subst, ◌∙◌, arith}
use Rattle.std.proofs.lemmas.Bool.{eqb-true, eqb-false, eq-eqb, ne_eqb, both_ways, false_from_ne_true}
use Rattle.std.proofs.lemmas.List.{get_or-take, length-take-le}
use Rattle.std.proofs.lemmas.List.Elements.{All-head, All-tail}
use Rattle.std.proofs.lemmas.Option.{none-some, same_Some}
use Rattle.pol_relation.specs.Relations.{LanguageView}
use Rattle.pol_relation.specs.Instances.{InstanceView}
use Rattle.pol_nogood.specs.declared.checking.Why.{Why}
use Rattle.pol_nogood.specs.declared.checking.Why.TheVariants as why
use Rattle.pol_nogood.specs.Nogoods.{Pair}
use Rattle.pol_nogood.specs.Logs.{StepView, no_step, step_at, nogood_at, cases_of}
use Rattle.pol_nogood.specs.LogFaults.{contained_in, is_placed, refer_below, covered, fault_unless, step_fault}
use Rattle.pol_nogood.specs.ValidLogs.{IsValidStep, HasFaultAt}
use Rattle.pol_nogood.proofs.LogLemmas.{placed_from_test, test_from_placed, below_from_test, test_from_below, not_below_from_test, test_from_not_below, covers_from_test, test_from_covers, uncontained_from_test, test_from_uncontained}

-- the first of the four tests that fails
abbrev pub tested : Bool → Bool → Bool → Bool → Option Why
tested placed known covers many = fault_unless placed why.BadPlace (fault_unless known why.BadReference (fault_unless covers why.NotContained (fault_unless many why.WrongCount None)))

record Passes (placed known covers many : Bool) : Type 0 where
  all_placed : placed ≡ true
  all_known : known ≡ true
  all_covered : covers ≡ true
  as_many : many ≡ true

passes_from_none : (placed known covers many : Bool) → tested placed known covers many ≡ None → Passes placed known covers many
passes_from_none false known covers many none = absurd (none-some why.BadPlace (sym none))
passes_from_none true false covers many none = absurd (none-some why.BadReference (sym none))
passes_from_none true true false many none = absurd (none-some why.NotContained (sym none))
passes_from_none true true true false none = absurd (none-some why.WrongCount (sym none))
passes_from_none true true true true none = record { all_placed = refl; all_known = refl; all_covered = refl; as_many = refl }

none_from_passes : (placed known covers many : Bool) → placed ≡ true → known ≡ true → covers ≡ true → many ≡ true → tested placed known covers many ≡ None
none_from_passes placed known covers many first second third fourth = rw (first, second, third, fourth) refl

-- the test that belongs to the fault fails, and those before it pass
abbrev FailsFirst : (placed known covers many : Bool) → Why → Type 0
FailsFirst placed known covers many why.BadPlace = placed ≡ false
FailsFirst placed known covers many why.BadReference = (placed ≡ true) × (known ≡ false)
FailsFirst placed known covers many why.NotContained = (placed ≡ true) × (known ≡ true) × (covers ≡ false)
FailsFirst placed known covers many why.WrongCount = (placed ≡ true) × (known ≡ true) × (covers ≡ true) × (many ≡ false)
FailsFirst placed known covers many why.NoEmptyEnd = ⊥

fails_from_some : (placed known covers many : Bool) (reason : Why) → tested placed known covers many ≡ Some reason → FailsFirst placed known covers many reason
fails_from_some false known covers many reason found = subst (FailsFirst false known covers many) (same_Some why.BadPlace reason found) refl
fails_from_some true false covers many reason found = subst (FailsFirst true false covers many) (same_Some why.BadReference reason found) (refl, refl)
fails_from_some true true false many reason found = subst (FailsFirst true true false many) (same_Some why.NotContained reason found) (refl, refl, refl)
fails_from_some true true true false reason found = subst (FailsFirst true true true false) (same_Some why.WrongCount reason found) (refl, refl, refl, refl)
fails_from_some true true true true reason found = absurd (none-some reason found)

some_from_fails : (placed known covers many : Bool) (reason : Why) → FailsFirst placed known covers many reason → tested placed known covers many ≡ Some reason
some_from_fails placed known covers many why.BadPlace fails = rw fails refl
some_from_fails placed known covers many why.BadReference fails = rw (fails.0, fails.1) refl
some_from_fails placed known covers many why.NotContained fails = rw (fails.0, fails.1, fails.2) refl
some_from_fails placed known covers many why.WrongCount fails = rw (fails.0, fails.1, fails.2, fails.3) refl
some_from_fails placed known covers many why.NoEmptyEnd fails = absurd fails

module _ (lang : LanguageView) (inst : InstanceView) (earlier : List StepView) (s : StepView) where
  -- a step without a fault is a valid one
  pub step_from_fault : step_fault lang inst earlier s ≡ None → IsValidStep lang inst earlier s
  step_from_fault none =
      let cases = cases_of lang inst s.basis s.nogood in
      let passes = passes_from_none (is_placed lang inst s) (refer_below (length earlier) s.references) (covered earlier s.nogood cases s.references) (eqb (length s.references) (length cases)) none in
      record {
        placed = placed_from_test lang inst s passes.all_placed;
        referred = record {
          as_many = eqb-true (length s.references) (length cases) passes.as_many;
          to_earlier = below_from_test (length earlier) s.references passes.all_known;
          contained = covers_from_test earlier s.nogood cases s.references passes.all_covered;
        };
      }

  -- and a valid step has no fault
  pub fault_from_step : IsValidStep lang inst earlier s → step_fault lang inst earlier s ≡ None
  fault_from_step is =
      let cases = cases_of lang inst s.basis s.nogood in
      none_from_passes (is_placed lang inst s) (refer_below (length earlier) s.references) (covered earlier s.nogood cases s.references) (eqb (length s.references) (length cases))
      (test_from_placed lang inst s is.placed)
      (test_from_below (length earlier) s.references is.referred.to_earlier)
      (test_from_covers earlier s.nogood cases s.references is.referred.contained)
      (eq-eqb (length s.references) (length cases) is.referred.as_many)

-- a fault of a step, in words

module _ (lang : LanguageView) (inst : InstanceView) (log : List StepView) (i : ℕ) where
  abbrev Fails : Why → Type 0
  Fails reason =
      let s = step_at log i in
      let cases = cases_of lang inst s.basis s.nogood in
      FailsFirst (is_placed lang inst s) (refer_below (length (take i log)) s.references) (covered (take i log) s.nogood cases s.references) (eqb (length s.references) (length cases)) reason

  said : i < length log → (reason : Why) → Fails reason → HasFaultAt lang inst log i reason
  said inside why.BadPlace fails =
      (inside, λ is. both_ways (is_placed lang inst (step_at log i)) fails (test_from_placed lang inst (step_at log i) is))
  said inside why.BadReference fails =
      let s = step_at log i in
      (inside, record { placed = placed_from_test lang inst s fails.0; not_earlier = not_below_from_test (length (take i log)) s.references fails.1 })
  said inside why.NotContained fails =
      let s = step_at log i in
      let cases = cases_of lang inst s.basis s.nogood in (
        inside,
        record {
          placed = placed_from_test lang inst s fails.0;
          to_earlier = below_from_test (length (take i log)) s.references fails.1;
          uncontained = uncontained_from_test (take i log) s.nogood cases s.references fails.2;
        },
      )
  said inside why.WrongCount fails =
      let s = step_at log i in
      let cases = cases_of lang inst s.basis s.nogood in (
        inside,
        record {
          placed = placed_from_test lang inst s fails.0;
          to_earlier = below_from_test (length (take i log)) s.references fails.1;
          contained = covers_from_test (take i log) s.nogood cases s.references fails.2;
          not_as_many = eqb-false (length s.references) (length cases) fails.3;
        },
      )
  said inside why.NoEmptyEnd fails = absurd fails

  told : i < length log → (reason : Why) → HasFaultAt lang inst log i reason → Fails reason
  told inside why.BadPlace has =
      false_from_ne_true (is_placed lang inst (step_at log i)) (λ passes. has.1 (placed_from_test lang inst (step_at log i) passes))
  told inside why.BadReference has =
      let s = step_at log i in
      (test_from_placed lang inst s has.1.placed, test_from_not_below (length (take i log)) s.references has.1.not_earlier)
  told inside why.NotContained has =
      let s = step_at log i in (
        test_from_placed lang inst s has.1.placed,
        test_from_below (length (take i log)) s.references has.1.to_earlier,
        test_from_uncontained (take i log) s.nogood (cases_of lang inst s.basis s.nogood) s.references has.1.uncontained,
      )
  told inside why.WrongCount has =
      let s = step_at log i in
      let cases = cases_of lang inst s.basis s.nogood in (
        test_from_placed lang inst s has.1.placed,
        test_from_below (length (take i log)) s.references has.1.to_earlier,
        test_from_covers (take i log) s.nogood cases s.references has.1.contained,
        ne_eqb (length s.references) (length cases) has.1.not_as_many,
      )
  told inside why.NoEmptyEnd has = absurd (omega (arith, has.0))

  -- the fault that the step has, and what it says
  pub words_from_fault : i < length log → (reason : Why) → step_fault lang inst (take i log) (step_at log i) ≡ Some reason → HasFaultAt lang inst log i reason
  words_from_fault inside reason found =
      let s = step_at log i in
      let cases = cases_of lang inst s.basis s.nogood in
      said inside reason (fails_from_some (is_placed lang inst s) (refer_below (length (take i log)) s.references) (covered (take i log) s.nogood cases s.references) (eqb (length s.references) (length cases)) reason found)

  pub fault_from_words : i < length log → (reason : Why) → HasFaultAt lang inst log i reason → step_fault lang inst (take i log) (step_at log i) ≡ Some reason
  fault_from_words inside reason has =
      let s = step_at log i in
      let cases = cases_of lang inst s.basis s.nogood in
      some_from_fails (is_placed lang inst s) (refer_below (length (take i log)) s.references) (covered (take i log) s.nogood cases s.references) (eqb (length s.references) (length cases)) reason (told inside reason has)

-- the tests by look-ups in the whole log

-- the nogood of one of the first i steps stands in the whole log
pub nogood_at-take : (log : List StepView) (i r : ℕ) → r < i → nogood_at (take i log) r ≡ nogood_at log r
nogood_at-take log i r before = ap (λ (s : StepView). s.nogood) (get_or-take i log r no_step before)

covered-take : (log : List StepView) (i : ℕ) (nogood : List Pair) (cases : List (List Pair)) (references : List ℕ) → All (λ r. r < i) references → covered (take i log) nogood cases references ≡ covered log nogood cases references
covered-take log i nogood [] references before = refl
covered-take log i nogood (one ∷ cases) [] before = refl
covered-take log i nogood (one ∷ cases) (r ∷ references) before =
    let rest = covered-take log i nogood cases references (All-tail (λ r. r < i) r references before) in
    let same = nogood_at-take log i r (All-head (λ r. r < i) r references before) in
    ap (λ b. contained_in (nogood_at (take i log) r) (nogood ++ one) && b) rest ∙ ap (λ one_nogood. contained_in one_nogood (nogood ++ one) && covered log nogood cases references) same

module _ (lang : LanguageView) (inst : InstanceView) (log : List StepView) (i : ℕ) (s : StepView) where
  step_fault-take : i ≤ length log → step_fault lang inst (take i log) s ≡ tested (is_placed lang inst s) (refer_below i s.references) (covered log s.nogood (cases_of lang inst s.basis s.nogood) s.references) (eqb (length s.references) (length (cases_of lang inst s.basis s.nogood)))
  step_fault-take within =
      let cases = cases_of lang inst s.basis s.nogood in
      let many = eqb (length s.references) (length cases) in
      ap (λ n. tested (is_placed lang inst s) (refer_below n s.references) (covered (take i log) s.nogood cases s.references) many) (length-take-le i log within)
      ∙ by (refer_below i s.references) refl
    where
      by : (known : Bool) → refer_below i s.references ≡ known → tested (is_placed lang inst s) known (covered (take i log) s.nogood (cases_of lang inst s.basis s.nogood) s.references) (eqb (length s.references) (length (cases_of lang inst s.basis s.nogood))) ≡ tested (is_placed lang inst s) known (covered log s.nogood (cases_of lang inst s.basis s.nogood) s.references) (eqb (length s.references) (length (cases_of lang inst s.basis s.nogood)))
      by false fails = refl
      by true passes =
          let before = below_from_test i s.references passes in
          ap (λ covers. tested (is_placed lang inst s) true covers (eqb (length s.references) (length (cases_of lang inst s.basis s.nogood)))) (covered-take log i s.nogood (cases_of lang inst s.basis s.nogood) s.references before)

  -- the step i of the log has the fault that its tests tell
  pub fault-tested : i < length log → s ≡ step_at log i → (references : List ℕ) → references ≡ s.references → (placed known covers many : Bool)
      → placed ≡ is_placed lang inst s → known ≡ refer_below i references → covers ≡ covered log s.nogood (cases_of lang inst s.basis s.nogood) s.references → many ≡ eqb (length references) (length (cases_of lang inst s.basis s.nogood))
      → tested placed known covers many ≡ step_fault lang inst (take i log) (step_at log i)
  fault-tested inside here references read placed known covers many is_p is_k is_c is_m =
      let cases = cases_of lang inst s.basis s.nogood in
      let test_k = refer_below i s.references in
      let test_c = covered log s.nogood cases s.references in
      let test_m = eqb (length s.references) (length cases) in
      let same_k : known ≡ test_k = is_k ∙ ap (refer_below i) read in
      let same_m : many ≡ test_m = is_m ∙ ap (λ some. eqb (length some) (length cases)) read in
      ap (λ m. tested placed known covers m) same_m ∙ (ap (λ b. tested placed known b test_m) is_c ∙ (ap (λ k. tested placed k test_c test_m) same_k ∙ (ap (λ p. tested p test_k test_c test_m) is_p
      ∙ (sym (step_fault-take (omega arith)) ∙ ap (step_fault lang inst (take i log)) here))))
