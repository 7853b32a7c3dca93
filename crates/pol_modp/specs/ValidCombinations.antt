-- Valid combinations, and the first fault of a combination, in the field's words.
use Rattle.std.specs.Prelude.{◌≡◌, ◌≢◌, ℕ, ◌%◌, ◌<◌, List, length, take, slice_index_or, All}
use Rattle.pol_relation.specs.Relations.{LanguageView}
use Rattle.pol_relation.specs.Instances.{InstanceView}
use Rattle.pol_modp.specs.declared.checking.CombFault.{CombFault}
use Rattle.pol_modp.specs.declared.checking.CombFault.TheVariants as fault
use Rattle.pol_modp.specs.Equations.{MeetsEquation}
use Rattle.pol_modp.specs.Combinations.{PartView, no_part, CombinationView, equation_of, labels_of}
use Rattle.pol_modp.specs.Combinations.{rows_at, arity_at, sum_at, sum_right}

-- a label below d for each value, which need not be one-to-one
pub record AreLabels (d : ℕ) (labels : List ℕ) : Type 0 where
  pub many : length labels ≡ d
  pub below : All (λ l. l < d) labels

-- the constraint exists, there are as many coefficients as its relation has places, and the numbers are below d
pub record IsPlaced (lang : LanguageView) (inst : InstanceView) (part : PartView) : Type 0 where
  pub known : part.constraint < length inst.constraints
  pub as_many : length part.coefs ≡ arity_at lang inst part.constraint
  pub multiplier_below : part.multiplier < lang.domain
  pub right_below : part.right < lang.domain
  pub coefs_below : All (λ a. a < lang.domain) part.coefs

-- the labels of each row of the constraint's relation meet the equation
abbrev pub IsImplied : LanguageView → InstanceView → List ℕ → PartView → Type 0
IsImplied lang inst labels part =
    All (λ row. MeetsEquation lang.domain (labels_of labels row) (equation_of part))
    (rows_at lang inst part.constraint)

-- in the sum the variable has the coefficient 0 modulo d
abbrev pub IsZeroAt : LanguageView → InstanceView → List PartView → ℕ → Type 0
IsZeroAt lang inst parts v = sum_at inst parts v % lang.domain ≡ 0

-- implied equations whose sum says that 0 is equal to another number
pub record IsValidCombination (lang : LanguageView) (inst : InstanceView) (c : CombinationView) : Type 0 where
  pub labels : AreLabels lang.domain c.labels
  pub placed : All (IsPlaced lang inst) c.parts
  pub implied : All (IsImplied lang inst c.labels) c.parts
  pub coefs_zero : (v : ℕ) → v < length inst.variables → IsZeroAt lang inst c.parts v
  pub right_nonzero : sum_right c.parts % lang.domain ≢ 0

-- the labels and the places of the parts are right
pub record ArePlaced (lang : LanguageView) (inst : InstanceView) (c : CombinationView) : Type 0 where
  pub labels : AreLabels lang.domain c.labels
  pub placed : All (IsPlaced lang inst) c.parts

-- so they are, and the labels of all rows meet the parts
pub record AreImplied (lang : LanguageView) (inst : InstanceView) (c : CombinationView) : Type 0 where
  pub are_placed : ArePlaced lang inst c
  pub implied : All (IsImplied lang inst c.labels) c.parts

-- so they do, and the sum has no coefficients
pub record IsBalanced (lang : LanguageView) (inst : InstanceView) (c : CombinationView) : Type 0 where
  pub are_implied : AreImplied lang inst c
  pub coefs_zero : (v : ℕ) → v < length inst.variables → IsZeroAt lang inst c.parts v

-- the part with this number does not have the property, and those before it have
pub record IsFirstWithout (P : PartView → Type 0) (parts : List PartView) (k : ℕ) : Type 0 where
  pub known : k < length parts
  pub before : All P (take k parts)
  pub here : ¬ P (slice_index_or parts k no_part)

-- the sum has a coefficient other than 0 at this variable, and at none before it
pub record IsFirstRemainder (lang : LanguageView) (inst : InstanceView) (parts : List PartView) (v : ℕ) : Type 0 where
  pub known : v < length inst.variables
  pub before : (u : ℕ) → u < v → IsZeroAt lang inst parts u
  pub here : ¬ IsZeroAt lang inst parts v

-- the fault is there, at the first part or variable that has it, and none before it in the order
abbrev pub IsFirstFault : LanguageView → InstanceView → CombinationView → CombFault → Type 0
IsFirstFault lang inst c fault.BadLabels = ¬ AreLabels lang.domain c.labels
IsFirstFault lang inst c (fault.BadPlace part) =
    AreLabels lang.domain c.labels × IsFirstWithout (IsPlaced lang inst) c.parts part
IsFirstFault lang inst c (fault.NotImplied part) =
    ArePlaced lang inst c × IsFirstWithout (IsImplied lang inst c.labels) c.parts part
IsFirstFault lang inst c (fault.Remainder variable) =
    AreImplied lang inst c × IsFirstRemainder lang inst c.parts variable
IsFirstFault lang inst c fault.ZeroRight = IsBalanced lang inst c × (sum_right c.parts % lang.domain ≡ 0)
