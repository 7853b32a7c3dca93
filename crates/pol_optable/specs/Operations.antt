-- Operations on a domain, and which relations they preserve.
use Rattle.std.specs.Prelude.{ℕ, List, ◌≡◌, ◌^◌, ◌<◌, ◌≤◌}
use Rattle.std.specs.Prelude.{length, All, slice_index, map, Contains}
use Rattle.std.specs.List.{range_with_len}
use Rattle.pol_base.specs.Tuples.{cell_of}
use Rattle.pol_relation.specs.Relations.{RelationView, LanguageView}

-- an operation: the value at each cell, that is at each tuple of arguments
pub record Operation : Type 0 where
  pub domain : ℕ
  pub arity : ℕ
  pub cells : List ℕ

-- the operation of K arguments with these cells
abbrev pub operation_of : (d K : ℕ) → List ℕ → Operation
operation_of d K cells = record { domain = d; arity = K; cells = cells }

-- a value of the domain for each tuple of arguments
pub record IsOperation (f : Operation) : Type 0 where
  pub some_arguments : 1 ≤ f.arity
  pub all_cells : length f.cells ≡ f.domain ^ f.arity
  pub below : All (λ v. v < f.domain) f.cells

-- the value at the arguments
abbrev pub value_at : Operation → List ℕ → ℕ
value_at f arguments = slice_index f.cells (cell_of f.domain arguments)

-- the values that stand at a place, one of each row
abbrev pub column : List (List ℕ) → ℕ → List ℕ
column rows place = map (λ row. slice_index row place) rows

-- what the operation makes of tuples of n values, place by place
abbrev pub image : Operation → ℕ → List (List ℕ) → List ℕ
image f n rows = map (λ place. value_at f (column rows place)) (range_with_len 0 n)

-- the image of every list of rows, repeats allowed, is a row
abbrev pub Preserves : Operation → RelationView → Type 0
Preserves f r =
    (rows : List (List ℕ))
    → length rows ≡ f.arity
    → All (Contains r.rows) rows
    → Contains r.rows (image f r.arity rows)

-- the operation preserves each relation of the language
abbrev pub IsPolymorphism : Operation → LanguageView → Type 0
IsPolymorphism f lang = All (λ named. Preserves f named.relation) lang.relations
