-- Affine sets of tuples, which x - y + z keeps.
use Rattle.std.specs.Prelude.{ℕ, ◌+◌, ◌-◌, ◌%◌, List, map, slice_index}
use Rattle.std.specs.List.{range_with_len}
use Rattle.pol_base.specs.Tuples.{IsTuple}

-- x - y + z modulo p, at each of n places
abbrev pub mixed : ℕ → ℕ → List ℕ → List ℕ → List ℕ → List ℕ
mixed p n x y z =
    map (λ v. (slice_index x v + (p - slice_index y v) + slice_index z v) % p) (range_with_len 0 n)

-- a set of tuples of n numbers below p that has x - y + z with any x, y and z
pub record IsAffineSet (p n : ℕ) (S : List ℕ → Type 0) : Type 0 where
  pub tuples : (x : List ℕ) → S x → IsTuple p n x
  pub kept : (x y z : List ℕ) → S x → S y → S z → S (mixed p n x y z)
