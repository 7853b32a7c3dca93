-- Constraints on the cells of a set function, each for the sets of values at the places of some rows.
use Rattle.std.specs.Prelude.{◌≡◌, ◌-◌, ◌<◌, ◌≤◌, ◌⊎◌}
use Rattle.std.specs.Prelude.{ℕ, List, length, take, map, All, Contains}
use Rattle.pol_base.specs.Tuples.{IsBefore}
use Rattle.pol_relation.specs.Relations.{LanguageView, relation_of}
use Rattle.pol_relation.specs.Instances.{ConstraintView}
use Rattle.pol_optable.specs.SetFunctions.{SetFunctionView, PreservesSets}
use Rattle.pol_optable.specs.SetBreaks.{IsProjection, IsBrokenSets}

-- that the values of the sets with the masks are a row of the relation with the number
abbrev pub constraint_of_sets : ℕ → List ℕ → ConstraintView
constraint_of_sets number masks = record { relation = number; scope = map (λ mask. mask - 1) masks }

-- a constraint of the sets of values at the places of some rows of its relation
pub record IsProjected (lang : LanguageView) (c : ConstraintView) : Type 0 where
  pub masks : List ℕ
  pub known : c.relation < length lang.relations
  pub projection : IsProjection (relation_of lang c.relation) masks
  pub is : c ≡ constraint_of_sets c.relation masks

-- each new constraint is an old one, or one of the sets of values at the places of some rows
abbrev pub AddsProjected : LanguageView → List ConstraintView → List ConstraintView → Type 0
AddsProjected lang old new = All (λ c. Contains old c ⊎ IsProjected lang c) new

-- masks, one for each place of the relation with the number and others behind, of which no row of it is made
pub record IsBrokenAt (g : SetFunctionView) (lang : LanguageView) (number : ℕ) (masks : List ℕ) : Type 0 where
  pub known : number < length lang.relations
  pub broken : IsBrokenSets g (relation_of lang number) (take (relation_of lang number).arity masks)

-- no sets of values at the places of rows of the relation with the number are broken from the masks on
abbrev pub KeepsFrom : SetFunctionView → LanguageView → ℕ → List ℕ → Type 0
KeepsFrom g lang number from =
    number < length lang.relations
    → (masks : List ℕ)
    → IsBrokenSets g (relation_of lang number) masks
    → IsBefore masks (take (relation_of lang number).arity from)

-- the relations from one number on and before another are preserved
abbrev pub PreservesAmong : SetFunctionView → LanguageView → ℕ → ℕ → Type 0
PreservesAmong g lang first end =
    (number : ℕ)
    → first ≤ number
    → number < end
    → number < length lang.relations
    → PreservesSets g (relation_of lang number)
