-- What a search looks for, and what it knows.
use Rattle.std.specs.Prelude.{◌≡◌, ◌<◌, ◌⊎◌, ℕ, List, length, slice_index, All, Option, MatchOption}
use Rattle.pol_base.specs.Tuples.{IsBefore}
use Rattle.pol_base.specs.Masks.{AreMasks, IsWithin}
use Rattle.pol_relation.specs.Relations.{LanguageView}
use Rattle.pol_relation.specs.Instances.{ConstraintView, FitsAt}
use Rattle.pol_csp.specs.Narrowing.{MeetsAll, Rejects}

-- constraints of the language over n cells that every list of W meets
pub record FollowFrom (W : List ℕ → Type 0) (lang : LanguageView) (n : ℕ)
    (pool : List ConstraintView) : Type 0 where
  pub fits : All (FitsAt lang n) pool
  pub met : (xs : List ℕ) → W xs → MeetsAll lang pool xs

-- within the masks, and wanted
pub record IsFound (W : List ℕ → Type 0) (masks xs : List ℕ) : Type 0 where
  pub within : IsWithin masks xs
  pub wanted : W xs

-- some wanted list within the masks, and none exactly where there is none
abbrev pub AnswersSome : (List ℕ → Type 0) → List ℕ → Option (List ℕ) → Type 0
AnswersSome W masks answer = MatchOption answer (Rejects W masks) (IsFound W masks)

-- all lists within the masks are equal below a cell
pub record IsSettled (masks : List ℕ) (at : ℕ) : Type 0 where
  pub same : (xs ys : List ℕ) → IsWithin masks xs → IsWithin masks ys
      → (k : ℕ) → k < at → slice_index xs k ≡ slice_index ys k

-- no list within the masks comes behind the list
abbrev pub IsBehindAll : List ℕ → List ℕ → Type 0
IsBehindAll masks ys = (xs : List ℕ) → IsWithin masks xs → ¬ IsBefore ys xs

-- the new masks lie in the old ones, and a wanted list that was lost does not come before one that is left
pub record Leads (W : List ℕ → Type 0) (old new : List ℕ) : Type 0 where
  pub long : length new ≡ length old
  pub masks : (d : ℕ) → AreMasks d old → AreMasks d new
  pub inside : (xs : List ℕ) → IsWithin new xs → IsWithin old xs
  pub kept : (ys : List ℕ) → IsWithin old ys → W ys → IsWithin new ys ⊎ IsBehindAll new ys
