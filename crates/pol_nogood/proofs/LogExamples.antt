-- Worked logs: their faults as the format tells them, worked out by hand, and computed.
use Rattle.std.specs.Prelude.{[], ◌∷◌, codes, ℕ, List, ◌++◌, Some, Option, ◌≡◌, None, refl}
use Rattle.pol_relation.specs.Relations.{NamedRelation, LanguageView}
use Rattle.pol_relation.specs.Instances.{ConstraintView, InstanceView}
use Rattle.pol_nogood.specs.declared.checking.LogFault.{LogFault}
use Rattle.pol_nogood.specs.declared.checking.Why.{Why}
use Rattle.pol_nogood.specs.declared.checking.Why.TheVariants as why
use Rattle.pol_nogood.specs.Nogoods.{Pair}
use Rattle.pol_nogood.specs.Logs.{Basis, StepView}
use Rattle.pol_nogood.specs.LogFaults.{log_fault}

abbrev unequal : NamedRelation
unequal = record { name = codes "neq"; relation = record { domain = 2; arity = 2; rows = (0 ∷ 1 ∷ []) ∷ (1 ∷ 0 ∷ []) ∷ [] } }

abbrev equal : NamedRelation
equal = record { name = codes "eq"; relation = record { domain = 2; arity = 2; rows = (0 ∷ 0 ∷ []) ∷ (1 ∷ 1 ∷ []) ∷ [] } }

abbrev language : LanguageView
language = record { domain = 2; relations = unequal ∷ equal ∷ [] }

abbrev on : ℕ → List ℕ → ConstraintView
on relation scope = record { relation = relation; scope = scope }

abbrev pair : ℕ → ℕ → Pair
pair x a = record { variable = x; value = a }

abbrev by_constraint : ℕ → List Pair → List ℕ → StepView
by_constraint c nogood references = record { basis = Basis.ByConstraint c; nogood = nogood; references = references }

abbrev by_variable : ℕ → List Pair → List ℕ → StepView
by_variable v nogood references = record { basis = Basis.ByVariable v; nogood = nogood; references = references }

abbrev fault : ℕ → Why → Option LogFault
fault step why = Some (record { step = step; why = why })

-- ---- three variables of two values, pairwise unequal

abbrev triangle : InstanceView
triangle = record {
  name = codes "tri";
  variables = codes "x" ∷ codes "y" ∷ codes "z" ∷ [];
  constraints = on 0 (0 ∷ 1 ∷ []) ∷ on 0 (1 ∷ 2 ∷ []) ∷ on 0 (2 ∷ 0 ∷ []) ∷ [];
}

-- each constraint refutes two equal values of its variables
abbrev equal_values : List StepView
equal_values =
    by_constraint 0 (pair 0 0 ∷ pair 1 0 ∷ []) []
    ∷ by_constraint 0 (pair 0 1 ∷ pair 1 1 ∷ []) []
    ∷ by_constraint 1 (pair 1 0 ∷ pair 2 0 ∷ []) []
    ∷ by_constraint 1 (pair 1 1 ∷ pair 2 1 ∷ []) []
    ∷ by_constraint 2 (pair 0 0 ∷ pair 2 0 ∷ []) []
    ∷ by_constraint 2 (pair 0 1 ∷ pair 2 1 ∷ []) []
    ∷ []

abbrev last_steps : List StepView
last_steps =
    by_variable 2 (pair 0 0 ∷ []) (4 ∷ 6 ∷ [])
    ∷ by_variable 1 (pair 0 1 ∷ pair 2 0 ∷ []) (2 ∷ 1 ∷ [])
    ∷ by_variable 2 (pair 0 1 ∷ []) (8 ∷ 5 ∷ [])
    ∷ by_variable 0 [] (7 ∷ 9 ∷ [])
    ∷ []

-- the first fault of the log with this step in the seventh place, where that of the valid log rests on variable 1,
-- has the nogood of 0 at variable 0 and 1 at variable 2, and refers to 0 and 3
abbrev seventh_fault : StepView → Option LogFault
seventh_fault step = log_fault language triangle (equal_values ++ step ∷ last_steps)

-- the nogood of the seventh step
abbrev seventh : List Pair
seventh = pair 0 0 ∷ pair 2 1 ∷ []

valid : seventh_fault (by_variable 1 seventh (0 ∷ 3 ∷ [])) ≡ None
valid = refl

-- each fault

names_no_constraint : seventh_fault (by_constraint 3 seventh (0 ∷ 3 ∷ [])) ≡ fault 6 why.BadPlace
names_no_constraint = refl

names_no_variable : seventh_fault (by_variable 3 seventh (0 ∷ 3 ∷ [])) ≡ fault 6 why.BadPlace
names_no_variable = refl

names_its_own_variable : seventh_fault (by_variable 2 seventh (4 ∷ 4 ∷ [])) ≡ fault 6 why.BadPlace
names_its_own_variable = refl

has_a_pair_of_no_variable : seventh_fault (by_variable 1 (pair 0 0 ∷ pair 2 1 ∷ pair 3 0 ∷ []) (0 ∷ 3 ∷ [])) ≡ fault 6 why.BadPlace
has_a_pair_of_no_variable = refl

has_a_pair_of_no_value : seventh_fault (by_constraint 0 (pair 0 2 ∷ []) []) ≡ fault 6 why.BadPlace
has_a_pair_of_no_value = refl

descends : seventh_fault (by_variable 1 (pair 2 1 ∷ pair 0 0 ∷ []) (0 ∷ 3 ∷ [])) ≡ fault 6 why.BadPlace
descends = refl

names_a_variable_twice : seventh_fault (by_variable 1 (pair 0 0 ∷ pair 0 0 ∷ pair 2 1 ∷ []) (0 ∷ 3 ∷ [])) ≡ fault 6 why.BadPlace
names_a_variable_twice = refl

refers_to_itself : seventh_fault (by_variable 1 seventh (0 ∷ 6 ∷ [])) ≡ fault 6 why.BadReference
refers_to_itself = refl

refers_in_the_wrong_order : seventh_fault (by_variable 1 seventh (3 ∷ 0 ∷ [])) ≡ fault 6 why.NotContained
refers_in_the_wrong_order = refl

lacks_a_reference : seventh_fault (by_variable 1 seventh (0 ∷ [])) ≡ fault 6 why.WrongCount
lacks_a_reference = refl

has_a_reference_too_many : seventh_fault (by_variable 1 seventh (0 ∷ 3 ∷ 0 ∷ [])) ≡ fault 6 why.WrongCount
has_a_reference_too_many = refl

does_not_end : log_fault language triangle equal_values ≡ fault 6 why.NoEmptyEnd
does_not_end = refl

has_no_step : log_fault language triangle [] ≡ fault 0 why.NoEmptyEnd
has_no_step = refl

asks_for_cases : log_fault language triangle (by_constraint 0 [] [] ∷ []) ≡ fault 0 why.WrongCount
asks_for_cases = refl

-- two faults, of which the first in the order is told

place_before_reference : seventh_fault (by_variable 1 (pair 2 1 ∷ pair 0 0 ∷ []) (0 ∷ 6 ∷ [])) ≡ fault 6 why.BadPlace
place_before_reference = refl

-- 3 has 1 at variable 1 and so is not contained for the value 0
reference_before_containment : seventh_fault (by_variable 1 seventh (3 ∷ 6 ∷ [])) ≡ fault 6 why.BadReference
reference_before_containment = refl

containment_before_count : seventh_fault (by_variable 1 seventh (3 ∷ [])) ≡ fault 6 why.NotContained
containment_before_count = refl

containment_before_a_greater_count : seventh_fault (by_variable 1 seventh (0 ∷ 0 ∷ 3 ∷ [])) ≡ fault 6 why.NotContained
containment_before_a_greater_count = refl

-- two faulty steps, of which the first is told, though its fault comes last in the order
abbrev two_faults : List StepView
two_faults = by_variable 1 seventh (0 ∷ []) ∷ by_variable 3 [] (9 ∷ []) ∷ []

step_before_step : log_fault language triangle (equal_values ++ two_faults) ≡ fault 6 why.WrongCount
step_before_step = refl

step_before_end : log_fault language triangle (equal_values ++ by_variable 1 seventh (0 ∷ []) ∷ []) ≡ fault 6 why.WrongCount
step_before_end = refl

-- ---- two variables that have to be unequal and equal

abbrev contradiction : InstanceView
contradiction = record {
  name = codes "i";
  variables = codes "x" ∷ codes "y" ∷ [];
  constraints = on 0 (0 ∷ 1 ∷ []) ∷ on 1 (0 ∷ 1 ∷ []) ∷ [];
}

-- the rows of `eq` are both cases of the empty nogood
abbrev by_all_rows : List StepView
by_all_rows =
    by_constraint 0 (pair 0 0 ∷ pair 1 0 ∷ []) []
    ∷ by_constraint 0 (pair 0 1 ∷ pair 1 1 ∷ []) []
    ∷ by_constraint 1 [] (0 ∷ 1 ∷ [])
    ∷ []

all_rows_are_cases : log_fault language contradiction by_all_rows ≡ None
all_rows_are_cases = refl

-- one row of `neq` agrees with each value of the first variable
abbrev by_one_row : List StepView
by_one_row =
    by_constraint 1 (pair 0 0 ∷ pair 1 1 ∷ []) []
    ∷ by_constraint 1 (pair 0 1 ∷ pair 1 0 ∷ []) []
    ∷ by_constraint 0 (pair 0 0 ∷ []) (0 ∷ [])
    ∷ by_constraint 0 (pair 0 1 ∷ []) (1 ∷ [])
    ∷ by_variable 0 [] (2 ∷ 3 ∷ [])
    ∷ []

one_row_agrees : log_fault language contradiction by_one_row ≡ None
one_row_agrees = refl

-- ---- one variable that has to be unequal to itself

abbrev unequal_to_itself : InstanceView
unequal_to_itself = record { name = codes "i"; variables = codes "x" ∷ []; constraints = on 0 (0 ∷ 0 ∷ []) ∷ [] }

-- no row reads one value for it
no_row_is_a_case : log_fault language unequal_to_itself (by_constraint 0 [] [] ∷ []) ≡ None
no_row_is_a_case = refl
