-- The operations that satisfy an identity and preserve a language, as lists of cells that are sought.
use Rattle.std.specs.Prelude.{◌≡◌, ◌<◌, ◌≤◌, ◌⊎◌, ◌^◌}
use Rattle.std.specs.Prelude.{ℕ, List, length, map, slice_index, All, Contains}
use Rattle.pol_relation.specs.Relations.{LanguageView, RelationView, relation_of}
use Rattle.pol_relation.specs.Instances.{ConstraintView}
use Rattle.pol_optable.specs.Operations.{Operation}
use Rattle.pol_optable.specs.Breaks.{IsBroken}
use Rattle.pol_indicator.specs.Indicators.{IsListed}

-- so many cells are those of a table of K arguments on the language's domain
pub record IsOver (lang : LanguageView) (K n : ℕ) : Type 0 where
  pub some_arguments : 1 ≤ K
  pub few_arguments : K ≤ 16
  pub all_cells : n ≡ lang.domain ^ K
  pub few_cells : lang.domain ^ K ≤ 4096

-- the relations of the language, in their order
abbrev pub relations_of : LanguageView → List RelationView
relations_of lang = map (λ named. named.relation) lang.relations

-- the operation makes a row of each list of rows that begins with a row from `first` on and before `end`
abbrev pub KeepsBetween : Operation → RelationView → ℕ → ℕ → Type 0
KeepsBetween f r first end =
    (numbers : List ℕ)
    → IsBroken f r numbers
    → first ≤ slice_index numbers 0
    → end ≤ slice_index numbers 0

-- so it does for a relation of the language
abbrev pub KeepsPart : Operation → LanguageView → ℕ → ℕ → ℕ → Type 0
KeepsPart f lang relation first end =
    relation < length lang.relations
    → KeepsBetween f (relation_of lang relation) first end

-- each new constraint is an old one, or that of K rows of a relation of the language
abbrev pub AddsListed : LanguageView → ℕ → List ConstraintView → List ConstraintView → Type 0
AddsListed lang K old new = All (λ c. Contains old c ⊎ IsListed lang K (length lang.relations) c) new
