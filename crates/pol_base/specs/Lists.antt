-- Plain lists among lists: names among names, tuples among rows.
use Rattle.std.specs.Prelude.{ℕ, Bool, List, [], ◌+◌, ◌∷◌, Option}
use Rattle.std.specs.Prelude.{Some, None, option_map, nat_eq, if◌then◌else◌}
use Rattle.std.specs.List.{list_any}
use Rattle.std.specs.Cmp.Lexicographic.{pointwise}

-- the same bytes, or the same values
abbrev pub is_same : List ℕ → List ℕ → Bool
is_same xs ys = pointwise nat_eq xs ys

-- the list is one of the lists
abbrev pub is_among : List (List ℕ) → List ℕ → Bool
is_among lists xs = list_any (λ ys. is_same ys xs) lists

-- the place of the first of the lists that is this one
abbrev pub place_in : List (List ℕ) → List ℕ → Option ℕ
place_in [] xs = None
place_in (ys ∷ lists) xs = if is_same ys xs then Some 0 else option_map (λ place. place + 1) (place_in lists xs)
