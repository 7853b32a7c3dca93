-- Which items are printed, so that they are read again: their names are names, and their numbers are few and small.
use Rattle.std.specs.Prelude.{ℕ, ◌<◌, ◌≤◌, ◌^◌, List, length, All, IsTrue, ⊤}
use Rattle.pol_base.specs.declared.class_name.ClassName.{ClassName}
use Rattle.pol_base.specs.declared.class_name.ClassName.TheVariants.{Affine, Maltsev}
use Rattle.pol_text.specs.Lines.{is_name}
use Rattle.pol_nogood.specs.Nogoods.{Pair}
use Rattle.pol_nogood.specs.Logs.{Basis, StepView}
use Rattle.pol_modp.specs.Combinations.{PartView, CombinationView}
use Rattle.pol_report.specs.declared.item.Item.{Item}
use Rattle.pol_report.specs.declared.item.Item.TheVariants as item

-- at least one value and at most so many, each one of a domain of five
pub record AreValues (most : ℕ) (values : List ℕ) : Type 0 where
  pub some : 1 ≤ length values
  pub few : length values ≤ most
  pub each : All (λ v. v ≤ 4) values

-- a number of at most nine digits
abbrev pub IsShort : ℕ → Type 0
IsShort n = n < 10 ^ 9

-- the number of what the step rests on
abbrev pub basis_number : Basis → ℕ
basis_number (Basis.ByConstraint c) = c
basis_number (Basis.ByVariable v) = v

-- the variable and the value are short enough
pub record IsPrintablePair (p : Pair) : Type 0 where
  pub variable : IsShort p.variable
  pub value : p.value ≤ 4

-- the pairs of a nogood: at most three
pub record ArePrintablePairs (pairs : List Pair) : Type 0 where
  pub few : length pairs ≤ 3
  pub each : All IsPrintablePair pairs

-- the references of a step: one for each case, and a relation has at most 128 rows
pub record ArePrintableReferences (references : List ℕ) : Type 0 where
  pub few : length references ≤ 128
  pub each : All IsShort references

-- what the step rests on, its pairs and its references are short and few enough
pub record IsPrintableStep (s : StepView) : Type 0 where
  pub basis : IsShort (basis_number s.basis)
  pub pairs : ArePrintablePairs s.nogood
  pub references : ArePrintableReferences s.references

-- the steps of a log: at most as many as eight logs have whose nogoods are different
pub record IsPrintableLog (log : List StepView) : Type 0 where
  pub few : length log ≤ 10037608
  pub each : All IsPrintableStep log

-- the number of the constraint is short enough, the other numbers are values, and there are at most six coefficients
pub record IsPrintablePart (p : PartView) : Type 0 where
  pub constraint : IsShort p.constraint
  pub multiplier : p.multiplier ≤ 4
  pub right : p.right ≤ 4
  pub coefs : AreValues 6 p.coefs

-- the parts of a combination are few enough
pub record ArePrintableParts (parts : List PartView) : Type 0 where
  pub few : length parts ≤ 4096
  pub each : All IsPrintablePart parts

-- the labels are those of the values of some domain
pub record IsPrintableCombination (sum : CombinationView) : Type 0 where
  pub labels : AreValues 5 sum.labels
  pub parts : ArePrintableParts sum.parts

-- at least one size and at most so many as a run over 256 constraints has, each short enough
pub record ArePrintableSizes (sizes : List ℕ) : Type 0 where
  pub some : 1 ≤ length sizes
  pub few : length sizes ≤ 257
  pub each : All IsShort sizes

-- a Yes of the class is its values alone
abbrev pub HasPlainYes : ClassName → Type 0
HasPlainYes Maltsev = ⊥
HasPlainYes class = ⊤

-- a No of the class is a log
abbrev pub HasLogs : ClassName → Type 0
HasLogs Affine = ⊥
HasLogs Maltsev = ⊥
HasLogs class = ⊤

-- a Yes of a class other than `maltsev`
pub record IsPrintableYes (name : List ℕ) (class : ClassName) (values : List ℕ) : Type 0 where
  pub named : IsTrue (is_name name)
  pub plain : HasPlainYes class
  pub solution : AreValues 40 values

-- a Yes of the class `maltsev`
pub record IsPrintableYesSizes (name : List ℕ) (values : List ℕ) (sizes : List ℕ) : Type 0 where
  pub named : IsTrue (is_name name)
  pub solution : AreValues 40 values
  pub sized : ArePrintableSizes sizes

-- a No by a log
pub record IsPrintableNo (name : List ℕ) (class : ClassName) (log : List StepView) : Type 0 where
  pub named : IsTrue (is_name name)
  pub has_logs : HasLogs class
  pub steps : IsPrintableLog log

-- a No by a combination
pub record IsPrintableNoSum (name : List ℕ) (sum : CombinationView) : Type 0 where
  pub named : IsTrue (is_name name)
  pub combination : IsPrintableCombination sum

-- a No of the class `maltsev`
pub record IsPrintableNoSizes (name : List ℕ) (sizes : List ℕ) : Type 0 where
  pub named : IsTrue (is_name name)
  pub sized : ArePrintableSizes sizes

-- the item is one that a report may have
abbrev pub IsPrintable : Item → Type 0
IsPrintable (item.ClassTable class cells) = AreValues 625 cells
IsPrintable (item.ClassNone class) = ⊤
IsPrintable item.ClassBeyond = ⊤
IsPrintable (item.Yes name class values) = IsPrintableYes name class values
IsPrintable (item.YesSizes name values sizes) = IsPrintableYesSizes name values sizes
IsPrintable (item.NoLog name class log) = IsPrintableNo name class log
IsPrintable (item.NoSum name combination) = IsPrintableNoSum name combination
IsPrintable (item.NoSizes name sizes) = IsPrintableNoSizes name sizes
IsPrintable (item.Undecided name) = IsTrue (is_name name)
