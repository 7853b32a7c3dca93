-- The rows of a relation of which an operation makes no row.
use Rattle.std.specs.Prelude.{◌≡◌, ◌<◌, ℕ, ◌+◌, ◌-◌, ◌/◌, List, [], ◌∷◌}
use Rattle.std.specs.Prelude.{◌++◌, length, take, drop, map, slice_index, slice_index_or, Contains}
use Rattle.pol_base.specs.Tuples.{IsTuple, IsBefore, cell_of}
use Rattle.pol_relation.specs.Relations.{RelationView}
use Rattle.pol_optable.specs.Operations.{Operation, image}

-- the rows with the numbers
abbrev pub rows_at : RelationView → List ℕ → List (List ℕ)
rows_at r numbers = map (λ i. slice_index_or r.rows i []) numbers

-- the numbers of rows of which the operation makes no row
pub record IsBroken (f : Operation) (r : RelationView) (numbers : List ℕ) : Type 0 where
  pub are_rows : IsTuple (length r.rows) f.arity numbers
  pub no_row : ¬ Contains r.rows (image f r.arity (rows_at r numbers))

-- such numbers, from a list of numbers on
pub record IsBrokenFrom (f : Operation) (r : RelationView) (from numbers : List ℕ) : Type 0 where
  pub broken : IsBroken f r numbers
  pub behind : ¬ IsBefore numbers from

-- the numbers with another last one
abbrev pub with_last : List ℕ → ℕ → List ℕ
with_last numbers last = take (length numbers - 1) numbers ++ last ∷ []

-- the values in the cells that stand behind the first cells of some places, each as far behind as the value there says
abbrev pub values_from : Operation → List ℕ → List ℕ → List ℕ
values_from f [] values = []
values_from f (first ∷ firsts) [] = []
values_from f (first ∷ firsts) (value ∷ values) =
    slice_index f.cells (first + value) ∷ values_from f firsts values

-- what the operation makes of the rows of a front and one more
abbrev pub image_behind : Operation → RelationView → List ℕ → ℕ → List ℕ
image_behind f r front last = image f r.arity (rows_at r (front ++ last ∷ []))

-- the entries of two tables at the numbers of the halves of a row add up to the cell of its image behind the front
abbrev pub TellImages : Operation → RelationView → List ℕ → List ℕ → List ℕ → Type 0
TellImages f r front front_cells back_cells =
    (last : ℕ)
    → last < length r.rows
    → slice_index front_cells (cell_of r.domain (take (r.arity / 2) (slice_index_or r.rows last [])))
    + slice_index back_cells (cell_of r.domain (drop (r.arity / 2) (slice_index_or r.rows last [])))
    ≡ cell_of r.domain (image_behind f r front last)

-- these images are tuples of values of the domain
abbrev pub AreImagesTuples : Operation → RelationView → List ℕ → Type 0
AreImagesTuples f r front = (last : ℕ) → last < length r.rows
    → IsTuple r.domain r.arity (image_behind f r front last)
