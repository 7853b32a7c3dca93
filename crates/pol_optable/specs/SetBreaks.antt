-- The vectors of sets of which a set function makes no row.
use Rattle.std.specs.Prelude.{◌≡◌, ℕ, ◌≤◌, List, ◌++◌, length, map, All, Contains, Bool, IsTrue}
use Rattle.pol_base.specs.Tuples.{IsBefore}
use Rattle.pol_relation.specs.Relations.{RelationView}
use Rattle.pol_optable.specs.SetFunctions.{SetFunctionView, value_of_set, projection}

-- the sets of the values that stand at each place of some nonempty list of rows
pub record IsProjection (r : RelationView) (masks : List ℕ) : Type 0 where
  pub rows : List (List ℕ)
  pub some : 1 ≤ length rows
  pub members : All (Contains r.rows) rows
  pub masks_are : projection r.arity rows ≡ masks

-- the sets at the places of some rows, of which the set function makes no row
pub record IsBrokenSets (g : SetFunctionView) (r : RelationView) (masks : List ℕ) : Type 0 where
  pub is_projection : IsProjection r masks
  pub no_row : ¬ Contains r.rows (map (λ mask. value_of_set g mask) masks)

-- broken sets that begin with the front, the masks behind it; where they are bound these do not come before `from`
pub record GoesOnBroken (g : SetFunctionView) (r : RelationView) (front : List ℕ) (bound : Bool)
    (from masks : List ℕ)
    : Type 0 where
  pub broken : IsBrokenSets g r (front ++ masks)
  pub behind : IsTrue bound → ¬ IsBefore masks from
