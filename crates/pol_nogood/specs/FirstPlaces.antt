-- Rows judged by the first place of each variable in the scope.
use Rattle.std.specs.Prelude.{◌≡◌, ◌==◌, ◌||◌, nat_le, Bool, true, ℕ, List, length, Option, Some, None}
use Rattle.std.specs.Prelude.{position, slice_get, slice_index, slice_index_or}
use Rattle.pol_nogood.specs.Nogoods.{Pair}

-- the first place of the variable in the scope
abbrev pub first_place : List ℕ → ℕ → Option ℕ
first_place scope x = position (λ y. y == x) scope

-- to each pair of the nogood belongs the first place of its variable
abbrev pub AreFirstPlaces : List ℕ → List Pair → List (Option ℕ) → Type 0
AreFirstPlaces scope nogood places =
    (i : ℕ) (p : Pair)
    → slice_get nogood i ≡ Some p
    → slice_index_or places i None ≡ first_place scope p.variable

-- the row has no other value at the place, if there is a place and the row goes so far
abbrev pub agrees_at : List ℕ → Option ℕ → ℕ → Bool
agrees_at row None value = true
agrees_at row (Some place) value = nat_le (length row) place || slice_index row place == value

-- the row has no other value than that of the pair at the first place of its variable
abbrev pub agrees_first : List ℕ → List ℕ → Pair → Bool
agrees_first scope row p = agrees_at row (first_place scope p.variable) p.value
