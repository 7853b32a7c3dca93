-- The rows of a relation as a set of cells.
use Rattle.std.specs.Prelude.{◌≡◌, ◌↔◌, ◌<◌, ◌≤◌, ◌/◌, ◌^◌, ℕ, List, []}
use Rattle.std.specs.Prelude.{length, take, drop, Bool, true, false, slice_index, slice_index_or, All, Contains}
use Rattle.pol_base.specs.Tuples.{IsTuple, cell_of}
use Rattle.pol_relation.specs.Relations.{RelationView}

-- the cells of the rows are marked, and no other cell of a tuple is
pub record MarksRows (r : RelationView) (marks : List Bool) : Type 0 where
  pub counted : r.domain ^ r.arity ≤ length marks
  pub marked : (t : List ℕ) → IsTuple r.domain r.arity t
      → (slice_index_or marks (cell_of r.domain t) false ≡ true) ↔ Contains r.rows t

-- for each row the numbers that the first half of its places writes, the shorter one, and the other half
pub record HalvesRows (r : RelationView) (fronts backs : List ℕ) : Type 0 where
  pub counted_fronts : length r.rows ≤ length fronts
  pub counted_backs : length r.rows ≤ length backs
  pub fronts_are : (i : ℕ) → i < length r.rows
      → slice_index fronts i ≡ cell_of r.domain (take (r.arity / 2) (slice_index_or r.rows i []))
  pub backs_are : (i : ℕ) → i < length r.rows
      → slice_index backs i ≡ cell_of r.domain (drop (r.arity / 2) (slice_index_or r.rows i []))

-- the marks of the cells of the rows, and the numbers of the halves of each
pub record IsRowSet (r : RelationView) (marks : List Bool) (fronts backs : List ℕ) : Type 0 where
  pub marks_rows : MarksRows r marks
  pub halves_rows : HalvesRows r fronts backs

-- room for them, where no cell is marked
pub record IsRoom (r : RelationView) (marks : List Bool) (fronts backs : List ℕ) : Type 0 where
  pub marks_fit : r.domain ^ r.arity ≤ length marks
  pub fronts_fit : length r.rows ≤ length fronts
  pub backs_fit : length r.rows ≤ length backs
  pub blank : All (λ marked. marked ≡ false) marks
