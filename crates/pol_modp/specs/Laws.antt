-- What holds of all clashes, of all valid combinations and of all first faults.
use Rattle.std.specs.Prelude.{◌≡◌, ℕ, List, All}
use Rattle.pol_relation.specs.Relations.{LanguageView}
use Rattle.pol_relation.specs.Instances.{InstanceView}
use Rattle.pol_modp.specs.declared.checking.CombFault.{CombFault}
use Rattle.pol_modp.specs.Equations.{EquationView, IsEquation, MeetsEquation, IsClash}
use Rattle.pol_modp.specs.Combinations.{CombinationView}
use Rattle.pol_modp.specs.ValidCombinations.{IsValidCombination, IsFirstFault}

-- no values meet equations that multipliers take to 0 equal to another number, whatever the modulus
abbrev pub ClashesRefute : Type 0
ClashesRefute =
    (p n : ℕ) (equations : List EquationView) (multipliers values : List ℕ)
    → All (IsEquation p n) equations
    → IsClash p n equations multipliers
    → ¬ All (MeetsEquation p values) equations

-- a valid combination has no first fault
abbrev pub ValidCombinationsHaveNoFault : Type 0
ValidCombinationsHaveNoFault =
    (lang : LanguageView) (inst : InstanceView) (c : CombinationView) (fault : CombFault)
    → IsValidCombination lang inst c
    → ¬ IsFirstFault lang inst c fault

-- a combination has at most one first fault
abbrev pub FirstFaultsAreOne : Type 0
FirstFaultsAreOne =
    (lang : LanguageView) (inst : InstanceView) (c : CombinationView) (fault other : CombFault)
    → IsFirstFault lang inst c fault
    → IsFirstFault lang inst c other
    → fault ≡ other
