-- Rows of numbers modulo p: the sum with a multiple, the rows of an echelon, and what they stand for.
use Rattle.std.specs.Prelude.{◌≡◌, ◌↔◌, ℕ, ◌+◌, ◌-◌, ◌*◌, ◌%◌, ◌<◌, List, []}
use Rattle.std.specs.Prelude.{◌∷◌, ◌++◌, length, map, take}
use Rattle.std.specs.Prelude.{replicate, slice_index, slice_index_or, All}
use Rattle.pol_modp.specs.Equations.{EquationView, dot}

-- the row with k times the other added, place by place modulo p, as far as the other goes
abbrev pub plus_multiple : ℕ → List ℕ → ℕ → List ℕ → List ℕ
plus_multiple p [] k other = []
plus_multiple p (a ∷ row) k [] = a ∷ row
plus_multiple p (a ∷ row) k (b ∷ other) = (a + k * b) % p ∷ plus_multiple p row k other

-- k times the row modulo p
abbrev pub multiple : ℕ → ℕ → List ℕ → List ℕ
multiple p k row = map (λ a. (0 + k * a) % p) row

-- the numbers solve the row modulo p
abbrev pub Vanishes : ℕ → List ℕ → List ℕ → Type 0
Vanishes p row ys = dot row ys % p ≡ 0

-- a row of an echelon: its numbers, the place of its pivot, and the number of the equation that it came from
pub record PivotView : Type 0 where
  pub cells : List ℕ
  pub pivot : ℕ
  pub source : ℕ

-- the numbers solve all rows
abbrev pub AllVanish : ℕ → List PivotView → List ℕ → Type 0
AllVanish p basis ys = All (λ (b : PivotView). Vanishes p b.cells ys) basis

-- behind the earlier rows: it has a 1 at its pivot, and 0 at theirs
pub record IsPivotRow (p n : ℕ) (earlier : List PivotView) (b : PivotView) : Type 0 where
  pub long : length b.cells ≡ n + 1 + (length earlier + 1)
  pub below : All (λ v. v < p) b.cells
  pub pivot_below : b.pivot < n
  pub one : slice_index b.cells b.pivot ≡ 1
  pub zeros : All (λ (e : PivotView). slice_index b.cells e.pivot ≡ 0) earlier

-- each row is one behind those before it
abbrev pub IsEchelon : ℕ → ℕ → List PivotView → Type 0
IsEchelon p n basis =
    (j : ℕ) (d : PivotView) → j < length basis → IsPivotRow p n (take j basis) (slice_index_or basis j d)

-- what stands at a number that the list of equations does not have
abbrev pub no_equation : EquationView
no_equation = record { coefs = []; right = 0 }

-- the equation with the number
abbrev pub equation_at : List EquationView → ℕ → EquationView
equation_at equations i = slice_index_or equations i no_equation

-- coefficients and right side in one row
abbrev pub whole : EquationView → List ℕ
whole e = e.coefs ++ e.right ∷ []

-- behind them a place for each of the k equations before it that gave a row, and its own place with -1
abbrev pub long_row : ℕ → EquationView → ℕ → List ℕ
long_row p e k = whole e ++ (replicate k 0 ++ (p - 1) ∷ [])

-- the numbers solve the long rows of the equations that gave the rows
abbrev pub SourcesVanish : ℕ → List EquationView → List PivotView → List ℕ → Type 0
SourcesVanish p equations basis ys =
    (j : ℕ) (d : PivotView)
    → j < length basis
    → Vanishes p (long_row p (equation_at equations (slice_index_or basis j d).source) j) ys

-- the rows are sums of multiples of their equations, and say all that the first i equations say
pub record IsBasis (p n : ℕ) (equations : List EquationView) (i : ℕ) (basis : List PivotView) : Type 0 where
  pub echelon : IsEchelon p n basis
  pub sources : All (λ (b : PivotView). b.source < i) basis
  pub derived : (ys : List ℕ) → SourcesVanish p equations basis ys → AllVanish p basis ys
  pub implies : (ys : List ℕ)
      → length ys ≡ n + 1
      → AllVanish p basis ys
      → (e : ℕ) → e < i → Vanishes p (whole (equation_at equations e)) ys

-- what is left of the equation: numbers that solve the rows solve it exactly where they solve the equation
pub record IsReduced (p n : ℕ) (e : EquationView) (basis : List PivotView) (row : List ℕ) : Type 0 where
  pub long : length row ≡ n + 1 + (length basis + 1)
  pub below : All (λ v. v < p) row
  pub zeros : All (λ (b : PivotView). slice_index row b.pivot ≡ 0) basis
  pub same : (ys : List ℕ)
      → AllVanish p basis ys
      → (Vanishes p (long_row p e (length basis)) ys ↔ Vanishes p row ys)

-- a multiple of the row that is solved by the same numbers, with a 1 at the pivot
pub record IsNormal (p : ℕ) (row : List ℕ) (pivot source : ℕ) (b : PivotView) : Type 0 where
  pub is_pivot : b.pivot ≡ pivot
  pub is_source : b.source ≡ source
  pub long : length b.cells ≡ length row
  pub below : All (λ v. v < p) b.cells
  pub one : slice_index b.cells pivot ≡ 1
  pub zeros : (c : ℕ) → slice_index row c ≡ 0 → slice_index b.cells c ≡ 0
  pub same : (ys : List ℕ) → (Vanishes p row ys ↔ Vanishes p b.cells ys)
