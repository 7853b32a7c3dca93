-- Tuples of values below d, their lexicographic order, and the cells that they number.
use Rattle.std.specs.Prelude.{ℕ, ◌≤◌, [], ◌≡◌, ◌<◌, List, length, All, ◌⊎◌, ◌∷◌}
use Rattle.std.specs.Prelude.{◌+◌, ◌*◌, ◌^◌, zero, suc, ◌/◌, ◌%◌}

-- a domain has 1 to 5 values, the numbers below its size
pub record IsDomain (d : ℕ) : Type 0 where
  pub some : 1 ≤ d
  pub few : d ≤ 5

-- n values of a domain of size d
pub record IsTuple (d n : ℕ) (t : List ℕ) : Type 0 where
  pub long : length t ≡ n
  pub below : All (λ v. v < d) t

-- the first place where the tuples differ decides, and the smaller value comes first
abbrev pub IsBefore : List ℕ → List ℕ → Type 0
IsBefore [] ys = ⊥
IsBefore (x ∷ xs) [] = ⊥
IsBefore (x ∷ xs) (y ∷ ys) = (x < y) ⊎ ((x ≡ y) × IsBefore xs ys)

-- the number that the tuple writes in base d, its first value first
abbrev pub cell_of : ℕ → List ℕ → ℕ
cell_of d [] = 0
cell_of d (x ∷ xs) = x * d ^ length xs + cell_of d xs

-- the k digits that write the cell in base d
abbrev pub digits_of : ℕ → ℕ → ℕ → List ℕ
digits_of d zero cell = []
digits_of d (suc k) cell = cell / d ^ k ∷ digits_of d k (cell % d ^ k)
