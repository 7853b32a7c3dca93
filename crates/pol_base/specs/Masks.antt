-- Masks: sets of values as numbers, and the values that are still open to each of several cells.
use Rattle.std.specs.Prelude.{◌≡◌, ℕ, ◌^◌, ◌<◌, List, [], ◌∷◌}
use Rattle.std.specs.Prelude.{length, map, slice_index, bit_or, IsBitSet, All}

-- the set of the values: the bit of weight 2 ^ v stands for v
abbrev pub mask_of : List ℕ → ℕ
mask_of [] = 0
mask_of (v ∷ values) = bit_or (2 ^ v) (mask_of values)

-- the set is nonempty, and its values are below d
pub record IsMask (d mask : ℕ) : Type 0 where
  pub some : 0 < mask
  pub below : mask < 2 ^ d

-- each of them is a mask of values below d
abbrev pub AreMasks : ℕ → List ℕ → Type 0
AreMasks d masks = All (IsMask d) masks

-- each value is one that its mask leaves open
pub record IsWithin (masks values : List ℕ) : Type 0 where
  pub long : length values ≡ length masks
  pub within : (k : ℕ) → k < length values → IsBitSet (slice_index masks k) (slice_index values k)

-- the masks that leave open one value each
abbrev pub single_masks : List ℕ → List ℕ
single_masks values = map (λ v. 2 ^ v) values
