-- The equations that rows meet: rows as equations on the numbers of an equation, and their solutions.
use Rattle.std.specs.Prelude.{◌≡◌, ◌≢◌, ℕ, ◌+◌, ◌-◌, ◌%◌, ◌<◌, ◌≤◌}
use Rattle.std.specs.Prelude.{List, [], ◌∷◌, ◌++◌, length, slice_index, All, Contains}
use Rattle.pol_modp.specs.Equations.{EquationView, IsEquation}
use Rattle.pol_modp.specs.Rows.{PivotView, AllVanish, whole}

-- it says that 0 is equal to another number
pub record IsContradiction (p n : ℕ) (e : EquationView) : Type 0 where
  pub long : length e.coefs ≡ n
  pub zeros : All (λ a. a ≡ 0) e.coefs
  pub nonzero : e.right % p ≢ 0

-- the row as an equation on coefficients and right side: these are an equation that the row meets
abbrev pub row_equation : ℕ → List ℕ → EquationView
row_equation p x = record { coefs = x ++ (p - 1) ∷ []; right = 0 }

-- numbers that solve all rows, with 1 at f and 0 at the other places that are no pivot
pub record IsFreeAt (p n : ℕ) (basis : List PivotView) (f : ℕ) (ys : List ℕ) : Type 0 where
  pub long : length ys ≡ n + 1
  pub one : slice_index ys f ≡ 1
  pub zeros : (c : ℕ) → c ≢ f → All (λ (b : PivotView). b.pivot ≢ c) basis → slice_index ys c ≡ 0
  pub vanish : AllVanish p basis ys

-- the equation of the place f, which is no pivot
pub record IsNullAt (p n : ℕ) (basis : List PivotView) (f : ℕ) (e : EquationView) : Type 0 where
  pub is_equation : IsEquation p n e
  pub free : IsFreeAt p (n + 1) basis f (whole e ++ 0 ∷ [])

-- one of the places, which is no pivot, has this equation
pub record IsNull (p n : ℕ) (basis : List PivotView) (e : EquationView) : Type 0 where
  pub place : ℕ
  pub within : place < n + 1
  pub null : IsNullAt p n basis place e

-- the equation of the place is one of these
pub record HasNullAt (p n : ℕ) (basis : List PivotView) (f : ℕ) (equations : List EquationView) : Type 0 where
  pub equation : EquationView
  pub among : Contains equations equation
  pub null : IsNullAt p n basis f equation

-- these are the equations of the places below this one that are no pivots
pub record HasNulls (p n : ℕ) (basis : List PivotView) (count : ℕ) (equations : List EquationView) : Type 0 where
  pub each : All (IsNull p n basis) equations
  pub all : (f : ℕ) → f < count → All (λ (b : PivotView). b.pivot ≢ f) basis
      → HasNullAt p n basis f equations
  pub few : length equations ≤ count
