-- Masks that lose values.
use Rattle.std.specs.Prelude.{◌≡◌, ◌≢◌, ◌<◌, ◌≤◌, ℕ, List, length, All, slice_index, IsBitSet}
use Rattle.std.specs.List.{sum}
use Rattle.pol_base.specs.Masks.{AreMasks, IsWithin}
use Rattle.pol_relation.specs.Relations.{LanguageView}
use Rattle.pol_relation.specs.Instances.{ConstraintView, Meets}

-- the values of a tuple are in the masks of the scope's cells
abbrev pub LiesIn : List ℕ → List ℕ → List ℕ → Type 0
LiesIn masks scope t =
    (j : ℕ)
    → j < length scope
    → IsBitSet (slice_index masks (slice_index scope j)) (slice_index t j)

-- the value of a cell is in a mask
abbrev pub HasBit : ℕ → ℕ → List ℕ → Type 0
HasBit cell mask xs = IsBitSet mask (slice_index xs cell)

-- a cell has another value
abbrev pub IsElse : ℕ → ℕ → List ℕ → Type 0
IsElse cell value xs = slice_index xs cell ≢ value

-- every constraint is met
abbrev pub MeetsAll : LanguageView → List ConstraintView → List ℕ → Type 0
MeetsAll lang pool xs = All (λ c. Meets lang c xs) pool

-- the new masks lie in the old ones, and have each list of K that the old ones have
pub record Narrows (K : List ℕ → Type 0) (old new : List ℕ) : Type 0 where
  pub long : length new ≡ length old
  pub masks : (d : ℕ) → AreMasks d old → AreMasks d new
  pub lower : sum new ≤ sum old
  pub inside : (xs : List ℕ) → IsWithin new xs → IsWithin old xs
  pub keeps : (xs : List ℕ) → IsWithin old xs → K xs → IsWithin new xs

-- the masks have no list of K
abbrev pub Rejects : (List ℕ → Type 0) → List ℕ → Type 0
Rejects K masks = (xs : List ℕ) → IsWithin masks xs → ¬ K xs
