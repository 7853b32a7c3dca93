-- The first fault of a log, computed step by step, and within a step in the order of the format.
use Rattle.std.specs.Prelude.{Bool, true, false, not, ◌&&◌, ◌==◌, nat_lt, ℕ, List, []}
use Rattle.std.specs.Prelude.{◌∷◌, ◌++◌, length, Option, Some, None, if◌then◌else◌}
use Rattle.std.specs.List.{list_any, list_all}
use Rattle.pol_relation.specs.Relations.{LanguageView}
use Rattle.pol_relation.specs.Instances.{InstanceView}
use Rattle.pol_nogood.specs.declared.checking.Why.{Why}
use Rattle.pol_nogood.specs.declared.checking.Why.TheVariants as why
use Rattle.pol_nogood.specs.declared.checking.LogFault.{LogFault}
use Rattle.pol_nogood.specs.Nogoods.{Pair}
use Rattle.pol_nogood.specs.Logs.{Basis, StepView, nogood_at, cases_of}

-- the pairs are one
abbrev pub same_pair : Pair → Pair → Bool
same_pair p q = p.variable == q.variable && p.value == q.value

-- each pair of the first list is in the second
abbrev pub contained_in : List Pair → List Pair → Bool
contained_in pairs others = list_all (λ p. list_any (λ q. same_pair p q) others) pairs

-- the constraint exists; the variable exists, and the nogood does not name it
abbrev pub basis_placed : InstanceView → Basis → List Pair → Bool
basis_placed inst (Basis.ByConstraint c) nogood = nat_lt c (length inst.constraints)
basis_placed inst (Basis.ByVariable v) nogood =
    nat_lt v (length inst.variables)
    && not (list_any (λ p. p.variable == v) nogood)

-- the variables and values exist
abbrev pub pairs_placed : ℕ → ℕ → List Pair → Bool
pairs_placed n d nogood = list_all (λ p. nat_lt p.variable n && nat_lt p.value d) nogood

-- the variables ascend strictly
abbrev pub ascending_pairs : List Pair → Bool
ascending_pairs [] = true
ascending_pairs (p ∷ []) = true
ascending_pairs (p ∷ q ∷ rest) = nat_lt p.variable q.variable && ascending_pairs (q ∷ rest)

-- what the step rests on and its pairs exist, and the variables of the pairs ascend strictly
abbrev pub is_placed : LanguageView → InstanceView → StepView → Bool
is_placed lang inst s =
    basis_placed inst s.basis s.nogood
    && pairs_placed (length inst.variables) lang.domain s.nogood
    && ascending_pairs s.nogood

-- the references are to the first so many steps
abbrev pub refer_below : ℕ → List ℕ → Bool
refer_below count references = list_all (λ r. nat_lt r count) references

-- as far as both lists go, the nogood of each reference is contained in the nogood joined with its case
abbrev pub covered : List StepView → List Pair → List (List Pair) → List ℕ → Bool
covered earlier nogood [] references = true
covered earlier nogood (case ∷ cases) [] = true
covered earlier nogood (case ∷ cases) (r ∷ references) =
    contained_in (nogood_at earlier r) (nogood ++ case)
    && covered earlier nogood cases references

-- the reason where the test fails, and else what comes next
abbrev pub fault_unless : Bool → Why → Option Why → Option Why
fault_unless passes why next = if passes then next else Some why

-- the first fault of a step behind the earlier ones
abbrev pub step_fault : LanguageView → InstanceView → List StepView → StepView → Option Why
step_fault lang inst earlier s =
    let cases = cases_of lang inst s.basis s.nogood in
    fault_unless (is_placed lang inst s) why.BadPlace
    (fault_unless (refer_below (length earlier) s.references) why.BadReference
    (fault_unless (covered earlier s.nogood cases s.references) why.NotContained
    (fault_unless (length s.references == length cases) why.WrongCount
    None)))

-- the nogood has no pairs
abbrev pub is_empty : List Pair → Bool
is_empty [] = true
is_empty (p ∷ ps) = false

-- the last step has the empty nogood
abbrev pub ends_empty : List StepView → Bool
ends_empty [] = false
ends_empty (s ∷ []) = is_empty s.nogood
ends_empty (s ∷ t ∷ rest) = ends_empty (t ∷ rest)

-- the fault behind all steps
abbrev pub end_fault : List StepView → Option LogFault
end_fault log = if ends_empty log then None else Some (record { step = length log; why = why.NoEmptyEnd })

-- the fault of the step with this number, and where it has none what comes next
abbrev pub after_step : ℕ → Option Why → Option LogFault → Option LogFault
after_step number (Some why) next = Some (record { step = number; why = why })
after_step number None next = next

-- the first fault of the steps behind the earlier ones
abbrev pub fault_from : LanguageView → InstanceView → List StepView → List StepView → Option LogFault
fault_from lang inst earlier [] = end_fault earlier
fault_from lang inst earlier (s ∷ rest) =
    after_step (length earlier) (step_fault lang inst earlier s)
    (fault_from lang inst (earlier ++ s ∷ []) rest)

-- the first fault of the log, and none where it is valid
abbrev pub log_fault : LanguageView → InstanceView → List StepView → Option LogFault
log_fault lang inst log = fault_from lang inst [] log
