-- What elimination promises of its answers.
use Rattle.std.specs.Prelude.{ℕ, List, All, ⊤}
use Rattle.pol_modp.specs.declared.elimination.Elim.{Elim}
use Rattle.pol_modp.specs.declared.elimination.Elim.TheVariants as answer
use Rattle.pol_modp.specs.Equations.{EquationView, MeetsEquation, IsClash, IsCommonSolution}

-- values meet all equations
abbrev pub ValuesSolve : ℕ → ℕ → List EquationView → Elim → Type 0
ValuesSolve p n equations (answer.Values values) = IsCommonSolution p n equations values
ValuesSolve p n equations (answer.Clash multipliers) = ⊤

-- the multipliers of a clash take the equations to 0 equal to another number
abbrev pub ClashIsShown : ℕ → ℕ → List EquationView → Elim → Type 0
ClashIsShown p n equations (answer.Values values) = ⊤
ClashIsShown p n equations (answer.Clash multipliers) = IsClash p n equations multipliers

-- a clash comes only where no values meet all equations
abbrev pub ClashOnlyWithoutValues : ℕ → List EquationView → Elim → Type 0
ClashOnlyWithoutValues p equations (answer.Values values) = ⊤
ClashOnlyWithoutValues p equations (answer.Clash multipliers) =
    (values : List ℕ) → ¬ All (MeetsEquation p values) equations
