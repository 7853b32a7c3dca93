-- The places of a scope, in which one may repeat, and the rows of a relation that are read there.
use Rattle.std.specs.Prelude.{◌≡◌, ◌<◌, ◌≢◌, ℕ, List, length, slice_index, All, AllPairs, Contains}
use Rattle.pol_relation.specs.Instances.{read_at}
use Rattle.pol_maltsev.specs.Views.{TableView, row_in, root_in}

-- the place at the number stands nowhere before it in the scope
pub record StandsFirst (scope : List ℕ) (e : ℕ) : Type 0 where
  pub known : e < length scope
  pub first : (k : ℕ) → k < e → slice_index scope k ≢ slice_index scope e

-- the places of a scope, each once, and the ascending numbers in the scope at which they stand first
pub record AreFirstPlaces (scope numbers places : List ℕ) : Type 0 where
  pub first : All (StandsFirst scope) numbers
  pub ascending : AllPairs (λ e k. e < k) numbers
  pub read : places ≡ read_at scope numbers
  pub each : (e : ℕ) → e < length scope → Contains places (slice_index scope e)

-- each row of the place reads one of the rows at the scope
pub record ReadsOnlyAt (v : TableView) (p : ℕ) (scope : List ℕ) (rows : List (List ℕ)) : Type 0 where
  pub each : (a : ℕ) → a < v.domain → root_in v p a < v.domain → Contains rows (read_at (row_in v p a) scope)

-- each row of the table does
pub record ReadsOnly (v : TableView) (scope : List ℕ) (rows : List (List ℕ)) : Type 0 where
  pub each : (p : ℕ) → p < v.width → ReadsOnlyAt v p scope rows
