-- Constraint instances over a language, and their solutions.
use Rattle.std.specs.Prelude.{ℕ, List, [], ◌<◌, ◌≤◌, length, All, ◌≢◌, AllPairs}
use Rattle.std.specs.Prelude.{◌≡◌, slice_index_or, map, slice_index, Contains, ◌∷◌, ◌++◌}
use Rattle.pol_relation.specs.Relations.{LanguageView, relation_of, rows_of}
use Rattle.pol_base.specs.Tuples.{IsTuple}

-- a constraint: the number of a relation, and its scope, the variables of its places, in which one may repeat
pub record ConstraintView : Type 0 where
  pub relation : ℕ
  pub scope : List ℕ

-- an instance: its name, the names of its variables, and its constraints
pub record InstanceView : Type 0 where
  pub name : List ℕ
  pub variables : List (List ℕ)
  pub constraints : List ConstraintView

-- a scope of one to six of the n variables
pub record IsScope (n : ℕ) (scope : List ℕ) : Type 0 where
  pub some_places : 1 ≤ length scope
  pub few_places : length scope ≤ 6
  pub below : All (λ x. x < n) scope

-- the variables have distinct names, and each scope has variables of the instance
pub record IsInstance (inst : InstanceView) : Type 0 where
  pub distinct : AllPairs (λ x y. x ≢ y) inst.variables
  pub scopes : All (λ c. IsScope (length inst.variables) c.scope) inst.constraints

-- the constraint is one of a relation of the language, over n variables
pub record FitsAt (lang : LanguageView) (n : ℕ) (c : ConstraintView) : Type 0 where
  pub known : c.relation < length lang.relations
  pub long : length c.scope ≡ (relation_of lang c.relation).arity
  pub below : All (λ x. x < n) c.scope

-- each constraint is one of a relation of the language, with a scope of its arity
abbrev pub Fits : LanguageView → InstanceView → Type 0
Fits lang inst = All (FitsAt lang (length inst.variables)) inst.constraints

-- what stands at a number that the instance does not have
abbrev pub no_constraint : ConstraintView
no_constraint = record { relation = 0; scope = [] }

-- the constraint with the number
abbrev pub constraint_of : InstanceView → ℕ → ConstraintView
constraint_of inst c = slice_index_or inst.constraints c no_constraint

-- the values that the assignment gives to the variables of the scope
abbrev pub read_at : List ℕ → List ℕ → List ℕ
read_at assignment scope = map (λ x. slice_index assignment x) scope

-- the tuple that is read at the scope is a row of the constraint's relation
abbrev pub Meets : LanguageView → ConstraintView → List ℕ → Type 0
Meets lang c assignment = Contains (rows_of lang c.relation) (read_at assignment c.scope)

-- no constraint uses an empty relation
abbrev pub UsesRows : LanguageView → InstanceView → Type 0
UsesRows lang inst = All (λ c. rows_of lang c.relation ≢ []) inst.constraints

-- an assignment of values of the domain to all variables that meets every constraint
pub record IsSolution (lang : LanguageView) (inst : InstanceView) (assignment : List ℕ) : Type 0 where
  pub assigns : IsTuple lang.domain (length inst.variables) assignment
  pub meets : All (λ c. Meets lang c assignment) inst.constraints

-- no assignment is a solution
abbrev pub HasNoSolution : LanguageView → InstanceView → Type 0
HasNoSolution lang inst = (assignment : List ℕ) → ¬ IsSolution lang inst assignment

-- the instance with a further variable, the last
abbrev pub with_variable : InstanceView → List ℕ → InstanceView
with_variable inst name = record {
  name = inst.name;
  variables = inst.variables ++ name ∷ [];
  constraints = inst.constraints;
}

-- the instance with a further constraint, the last
abbrev pub with_constraint : InstanceView → ConstraintView → InstanceView
with_constraint inst c = record {
  name = inst.name;
  variables = inst.variables;
  constraints = inst.constraints ++ c ∷ [];
}
