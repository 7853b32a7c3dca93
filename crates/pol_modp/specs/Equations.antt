-- Linear equations modulo p, the values that meet them, and multipliers that show that none do.
use Rattle.std.specs.Prelude.{◌≡◌, ◌≢◌, ◌⊎◌, ℕ, ◌+◌, ◌*◌, ◌%◌, ◌<◌, List, []}
use Rattle.std.specs.Prelude.{◌∷◌, length, map, slice_index, All}

-- an equation: the coefficients of the variables, and the right side
pub record EquationView : Type 0 where
  pub coefs : List ℕ
  pub right : ℕ

-- an equation over n variables, with numbers below p
pub record IsEquation (p n : ℕ) (e : EquationView) : Type 0 where
  pub long : length e.coefs ≡ n
  pub below : All (λ v. v < p) e.coefs
  pub right_below : e.right < p

-- the sizes of domain modulo which each number other than 0 has an inverse
abbrev pub IsSmallPrime : ℕ → Type 0
IsSmallPrime p = (p ≡ 2) ⊎ ((p ≡ 3) ⊎ (p ≡ 5))

-- the sum of the products, place by place, as far as both lists go
abbrev pub dot : List ℕ → List ℕ → ℕ
dot [] ys = 0
dot (x ∷ xs) [] = 0
dot (x ∷ xs) (y ∷ ys) = x * y + dot xs ys

-- the values meet the equation modulo p
abbrev pub MeetsEquation : ℕ → List ℕ → EquationView → Type 0
MeetsEquation p values e = dot e.coefs values % p ≡ e.right % p

-- the coefficients of the variable, one of each equation
abbrev pub coefs_at : ℕ → List EquationView → List ℕ
coefs_at v equations = map (λ (e : EquationView). slice_index e.coefs v) equations

-- the right sides, one of each equation
abbrev pub rights_of : List EquationView → List ℕ
rights_of equations = map (λ (e : EquationView). e.right) equations

-- n numbers below p that meet all equations
pub record IsCommonSolution (p n : ℕ) (equations : List EquationView) (values : List ℕ) : Type 0 where
  pub long : length values ≡ n
  pub below : All (λ v. v < p) values
  pub meets : All (MeetsEquation p values) equations

-- a multiplier below p for each equation: the sum of multiplier times equation has coefficients 0
-- and a right side other than 0
pub record IsClash (p n : ℕ) (equations : List EquationView) (multipliers : List ℕ) : Type 0 where
  pub long : length multipliers ≡ length equations
  pub below : All (λ m. m < p) multipliers
  pub coefs_zero : (v : ℕ) → v < n → dot multipliers (coefs_at v equations) % p ≡ 0
  pub right_nonzero : dot multipliers (rights_of equations) % p ≢ 0
