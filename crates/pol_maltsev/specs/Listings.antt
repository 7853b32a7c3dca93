-- The rows of a table as a list.
use Rattle.std.specs.Prelude.{◌≡◌, ◌<◌, ◌≤◌, ◌+◌, ◌⊎◌, ℕ, List, length, cond, All, Contains}
use Rattle.pol_rows.specs.Signatures.{sum_below}
use Rattle.pol_rows.specs.RowLists.{RowsView}
use Rattle.pol_maltsev.specs.Views.{TableView, row_in, root_in, same_in}

-- the table and the rows are of one domain and one width
pub record HaveSameShape (v : TableView) (r : RowsView) : Type 0 where
  pub domain : r.domain ≡ v.domain
  pub width : r.width ≡ v.width

-- the row of a value that a member has at a place
pub record IsRowOf (v : TableView) (t : List ℕ) : Type 0 where
  pub place : ℕ
  pub value : ℕ
  pub placed : place < v.width
  pub below : value < v.domain
  pub present : root_in v place value < v.domain
  pub row : t ≡ row_in v place value

-- how many of the first values members have at a place
abbrev pub values_in : TableView → ℕ → ℕ → ℕ
values_in v p count = sum_below count (λ a. cond (same_in v p a a) 1 0)

-- each row of the table, at most one for each value at each place
pub record AreRowsOf (v : TableView) (r : RowsView) : Type 0 where
  pub shape : HaveSameShape v r
  pub only : All (IsRowOf v) r.rows
  pub each : (p a : ℕ) → p < v.width → a < v.domain → root_in v p a < v.domain
      → Contains r.rows (row_in v p a)
  pub few : length r.rows ≤ sum_below v.width (λ p. values_in v p v.domain)

-- the same for the first k places, and of the next for the first values
pub record AreRowsBefore (v : TableView) (k count : ℕ) (r : RowsView) : Type 0 where
  pub shape : HaveSameShape v r
  pub only : All (IsRowOf v) r.rows
  pub each : (p a : ℕ) → p < k ⊎ ((p ≡ k) × (a < count)) → p < v.width → a < v.domain
      → root_in v p a < v.domain
      → Contains r.rows (row_in v p a)
  pub few : length r.rows ≤ sum_below k (λ p. values_in v p v.domain) + values_in v k count
