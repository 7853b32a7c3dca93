-- Set functions, and which relations they preserve.
use Rattle.std.specs.Prelude.{◌≡◌, ℕ, ◌-◌, ◌^◌, ◌<◌, ◌≤◌}
use Rattle.std.specs.Prelude.{List, length, map, slice_index, All, Contains}
use Rattle.std.specs.List.{range_with_len}
use Rattle.pol_base.specs.Masks.{mask_of}
use Rattle.pol_relation.specs.Relations.{RelationView, LanguageView}
use Rattle.pol_optable.specs.Operations.{column}

-- a set function: the value of each nonempty set of values, that of mask m in cell m - 1
pub record SetFunctionView : Type 0 where
  pub domain : ℕ
  pub cells : List ℕ

-- a value of the domain for each nonempty set of its values
pub record IsSetFunction (g : SetFunctionView) : Type 0 where
  pub all_cells : length g.cells ≡ 2 ^ g.domain - 1
  pub below : All (λ v. v < g.domain) g.cells

-- the value of the set with the mask
abbrev pub value_of_set : SetFunctionView → ℕ → ℕ
value_of_set g mask = slice_index g.cells (mask - 1)

-- the sets of the values that stand at each of n places
abbrev pub projection : ℕ → List (List ℕ) → List ℕ
projection n rows = map (λ place. mask_of (column rows place)) (range_with_len 0 n)

-- what the set function makes of tuples of n values, place by place
abbrev pub set_image : SetFunctionView → ℕ → List (List ℕ) → List ℕ
set_image g n rows = map (λ mask. value_of_set g mask) (projection n rows)

-- the image of every nonempty list of rows is a row; that rows repeat and stand in any order changes no set
abbrev pub PreservesSets : SetFunctionView → RelationView → Type 0
PreservesSets g r =
    (rows : List (List ℕ))
    → 1 ≤ length rows
    → All (Contains r.rows) rows
    → Contains r.rows (set_image g r.arity rows)

-- the set function preserves each relation of the language
abbrev pub IsSetPolymorphism : SetFunctionView → LanguageView → Type 0
IsSetPolymorphism g lang = All (λ named. PreservesSets g named.relation) lang.relations
