-- The values that are open to the cells of a set function that is sought.
use Rattle.std.specs.Prelude.{◌≡◌, ◌-◌, ◌^◌, ◌<◌, ℕ, Bool, length, slice_index, IsTrue}
use Rattle.pol_csp.specs.Problems.{ProblemView}

-- all values are open to the cell, or it is that of the set of one value, which alone is open
pub data IsOpen (d : ℕ) (idempotent : Bool) (cell mask : ℕ) : Type 0 where
  all : mask ≡ 2 ^ d - 1 → IsOpen d idempotent cell mask
  one : (v : ℕ) → IsTrue idempotent → v < d → mask ≡ 2 ^ v → cell ≡ 2 ^ v - 1
      → IsOpen d idempotent cell mask

-- a cell for each nonempty set of values below d, each so open and tied to itself
pub record AreOpen (d : ℕ) (idempotent : Bool) (p : ProblemView) : Type 0 where
  pub domain_is : p.domain ≡ d
  pub all_cells : length p.masks ≡ 2 ^ d - 1
  pub values_open : (cell : ℕ) → cell < length p.masks → IsOpen d idempotent cell (slice_index p.masks cell)
  pub own_ties : (cell : ℕ) → cell < length p.ties → slice_index p.ties cell ≡ cell
