-- Logs: steps by constraints and by variables, and the cases of a step.
use Rattle.std.specs.Prelude.{◌≢◌, ◌==◌, Bool, not, ◌||◌, ℕ, ◌≤◌, ◌-◌, List}
use Rattle.std.specs.Prelude.{[], ◌∷◌, ◌++◌, length, map, filter, slice_index_or, All, AllPairs}
use Rattle.std.specs.List.{list_all, range_with_len}
use Rattle.pol_relation.specs.Relations.{LanguageView, rows_of}
use Rattle.pol_relation.specs.Instances.{InstanceView, constraint_of}
use Rattle.pol_nogood.specs.Nogoods.{Pair}

-- what a step rests on: a constraint of the instance, or the values of a variable
pub data Basis : Type 0 where
  ByConstraint : ℕ → Basis
  ByVariable : ℕ → Basis

-- a step: its basis, its nogood, and the numbers of earlier steps, one for each case
pub record StepView : Type 0 where
  pub basis : Basis
  pub nogood : List Pair
  pub references : List ℕ

-- what stands at a number that the log does not have
abbrev pub no_step : StepView
no_step = record { basis = Basis.ByVariable 0; nogood = []; references = [] }

-- the step with the number
abbrev pub step_at : List StepView → ℕ → StepView
step_at log s = slice_index_or log s no_step

-- the nogood of the step with the number
abbrev pub nogood_at : List StepView → ℕ → List Pair
nogood_at log s = (step_at log s).nogood

-- the nogood of the last step
abbrev pub last_nogood : List StepView → List Pair
last_nogood log = nogood_at log (length log - 1)

-- the pairs of the scope's variables with the values of the row
abbrev pub reading : List ℕ → List ℕ → List Pair
reading [] row = []
reading (x ∷ scope) [] = []
reading (x ∷ scope) (v ∷ row) = record { variable = x; value = v } ∷ reading scope row

-- the pairs do not give one variable two values
abbrev pub compatible : Pair → Pair → Bool
compatible p q = not (p.variable == q.variable) || p.value == q.value

-- the row reads one value for each variable that repeats, and agrees with the nogood
abbrev pub is_case : List ℕ → List Pair → List ℕ → Bool
is_case scope nogood row =
    list_all (λ p. list_all (λ q. compatible p q) (reading scope row ++ nogood)) (reading scope row)

-- the readings of the rows that are cases, in order
abbrev pub row_cases : List ℕ → List Pair → List (List ℕ) → List (List Pair)
row_cases scope nogood rows = map (reading scope) (filter (is_case scope nogood) rows)

-- the reading of a value: the variable with it
abbrev pub value_case : ℕ → ℕ → List Pair
value_case v a = record { variable = v; value = a } ∷ []

-- the readings of the first values, in order
abbrev pub value_cases : ℕ → ℕ → List (List Pair)
value_cases v count = map (value_case v) (range_with_len 0 count)

-- the readings of the cases of a step: rows of the constraint's relation, or the values of the variable
abbrev pub cases_of : LanguageView → InstanceView → Basis → List Pair → List (List Pair)
cases_of lang inst (Basis.ByConstraint c) nogood =
    row_cases (constraint_of inst c).scope nogood (rows_of lang (constraint_of inst c).relation)
cases_of lang inst (Basis.ByVariable v) nogood = value_cases v lang.domain

-- the log of one step: the constraint has no case
abbrev pub breaking_log : ℕ → List StepView
breaking_log c = record { basis = Basis.ByConstraint c; nogood = []; references = [] } ∷ []

-- the nogoods are pairwise different, as sets too since their variables ascend, and have at most so many pairs each
pub record FitsMost (most : ℕ) (log : List StepView) : Type 0 where
  pub different : AllPairs (λ s t. s.nogood ≢ t.nogood) log
  pub small : All (λ s. length s.nogood ≤ most) log
