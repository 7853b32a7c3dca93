-- Indicator problems: constraints on the cells of a table, one for each list of rows of each relation.
use Rattle.std.specs.Prelude.{◌≡◌, ◌<◌, ℕ, List, length, map, All, Contains}
use Rattle.std.specs.List.{range_with_len}
use Rattle.pol_base.specs.Tuples.{cell_of}
use Rattle.pol_relation.specs.Relations.{LanguageView, relation_of, rows_of}
use Rattle.pol_relation.specs.Instances.{ConstraintView}
use Rattle.pol_optable.specs.Operations.{column}

-- the cells that the columns of n places of the rows name
abbrev pub scope_of : ℕ → ℕ → List (List ℕ) → List ℕ
scope_of d n rows = map (λ place. cell_of d (column rows place)) (range_with_len 0 n)

-- that the image of the rows is a row of the relation with the number
abbrev pub constraint_of_rows : LanguageView → ℕ → List (List ℕ) → ConstraintView
constraint_of_rows lang number rows = record {
  relation = number;
  scope = scope_of lang.domain (relation_of lang number).arity rows;
}

-- a constraint of K rows of one of the first n relations
pub record IsListed (lang : LanguageView) (K n : ℕ) (c : ConstraintView) : Type 0 where
  pub rows : List (List ℕ)
  pub long : length rows ≡ K
  pub members : All (Contains (rows_of lang c.relation)) rows
  pub known : c.relation < n
  pub is : c ≡ constraint_of_rows lang c.relation rows

-- the constraints of all lists of K rows of the first n relations, and no other
pub record AreIndicated (lang : LanguageView) (K n : ℕ) (constraints : List ConstraintView) : Type 0 where
  pub sound : All (IsListed lang K n) constraints
  pub complete : (number : ℕ) (rows : List (List ℕ)) → number < n → length rows ≡ K
      → All (Contains (rows_of lang number)) rows
      → Contains constraints (constraint_of_rows lang number rows)
