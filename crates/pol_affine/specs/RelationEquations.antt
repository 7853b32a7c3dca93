-- Relations that the operation of labels preserves, and the equations that describe them.
use Rattle.std.specs.Prelude.{◌≡◌, ◌↔◌, ◌≤◌, ◌+◌, ℕ, List, length, All, Contains}
use Rattle.pol_base.specs.Tuples.{IsTuple}
use Rattle.pol_relation.specs.Relations.{RelationView, LanguageView}
use Rattle.pol_optable.specs.Operations.{Operation, Preserves, IsPolymorphism}
use Rattle.pol_optable.specs.Identities.{IsAffineBy}
use Rattle.pol_optable.specs.Tables.{IsOpTable}
use Rattle.pol_modp.specs.Equations.{EquationView, IsEquation, MeetsEquation}
use Rattle.pol_modp.specs.Combinations.{labels_of}

-- an operation that the labels turn into x - y + z modulo d preserves the relation
pub record IsPreservedBy (labels : List ℕ) (r : RelationView) : Type 0 where
  pub operation : Operation
  pub is_table : IsOpTable 3 operation
  pub same_domain : operation.domain ≡ r.domain
  pub by_labels : IsAffineBy labels operation
  pub preserves : Preserves operation r

-- such an operation preserves each relation of the language
pub record ArePreservedBy (labels : List ℕ) (lang : LanguageView) : Type 0 where
  pub operation : Operation
  pub is_table : IsOpTable 3 operation
  pub same_domain : operation.domain ≡ lang.domain
  pub by_labels : IsAffineBy labels operation
  pub preserves : IsPolymorphism operation lang

-- the tuples of values of the domain whose labels meet all equations are the rows
abbrev pub RowsMeetAlone : List ℕ → RelationView → List EquationView → Type 0
RowsMeetAlone labels r equations =
    (values : List ℕ)
    → IsTuple r.domain r.arity values
    → All (MeetsEquation r.domain (labels_of labels values)) equations ↔ Contains r.rows values

-- few equations over the places of the relation that describe its rows
pub record Describes (labels : List ℕ) (r : RelationView) (equations : List EquationView) : Type 0 where
  pub are_equations : All (IsEquation r.domain r.arity) equations
  pub few : length equations ≤ r.arity + 1
  pub rows : RowsMeetAlone labels r equations
