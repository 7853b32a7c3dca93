-- The verdict on an item of a report.
use Rattle.std.specs.Prelude.{◌≡◌, ℕ, ◌<◌, ⊤, List, length, Contains}
use Rattle.pol_base.specs.declared.class_name.ClassName.{ClassName}
use Rattle.pol_base.specs.declared.class_name.ClassName.TheVariants.{Constant, Semilattice, SetFunction, Majority}
use Rattle.pol_base.specs.declared.class_name.ClassName.TheVariants.{Nu4, Affine, Maltsev}
use Rattle.pol_base.specs.Tuples.{IsTuple}
use Rattle.pol_relation.specs.Relations.{LanguageView, relation_of}
use Rattle.pol_relation.specs.Instances.{InstanceView, IsSolution, Meets, constraint_of}
use Rattle.pol_optable.specs.Operations.{Operation, IsOperation, Preserves, operation_of}
use Rattle.pol_optable.specs.SetFunctions.{SetFunctionView, IsSetFunction, PreservesSets}
use Rattle.pol_optable.specs.Identities.{IsConstant, IsSemilattice, IsNearUnanimity, IsAffine, IsMaltsev}
use Rattle.pol_optable.specs.ClassLines.{IsTable, IsSetTable}
use Rattle.pol_nogood.specs.Logs.{StepView}
use Rattle.pol_nogood.specs.ValidLogs.{IsValidLog, IsFirstFault as IsFirstLogFault}
use Rattle.pol_modp.specs.Combinations.{CombinationView}
use Rattle.pol_modp.specs.ValidCombinations.{IsValidCombination, IsFirstFault as IsFirstSumFault}
use Rattle.pol_lang.specs.Files.{FileView, instance_names, instance_of}
use Rattle.pol_report.specs.declared.item.Item.{Item}
use Rattle.pol_report.specs.declared.item.Item.TheVariants as item
use Rattle.pol_checker.specs.declared.verdict.Cause.{Cause}
use Rattle.pol_checker.specs.declared.verdict.Cause.TheVariants.{Unknown, Size, Identity, Breaks, Assignment}
use Rattle.pol_checker.specs.declared.verdict.Cause.TheVariants.{Constraint, BadLog, BadSum}
use Rattle.pol_checker.specs.declared.verdict.Verdict.{Verdict}
use Rattle.pol_checker.specs.declared.verdict.Verdict.TheVariants.{Accepted, Unchecked, Rejected}

-- the property fails at this number, the first of so many at which it does
pub record IsFirstWithout (P : ℕ → Type 0) (count number : ℕ) : Type 0 where
  pub known : number < count
  pub before : (i : ℕ) → i < number → P i
  pub here : ¬ P number

-- the verdict on what an item holds: accepted where it is good, and rejected for its fault
abbrev pub IsJudged : Type 0 → (Cause → Type 0) → Verdict → Type 0
IsJudged Good Fault Accepted = Good
IsJudged Good Fault Unchecked = ⊥
IsJudged Good Fault (Rejected cause) = Fault cause

-- ---- the table of a class

-- a table that has the cells of its class, and satisfies the identities
pub record HasIdentities (Sized Satisfies : Type 0) : Type 0 where
  pub sized : Sized
  pub satisfies : Satisfies

-- why a table is none of its class: it has another number of cells, or one that is no value of the domain; or else
-- the identities fail; or else a relation is not preserved, the first of so many
abbrev pub IsTableFault : (Sized Satisfies : Type 0) → (ℕ → Type 0) → ℕ → Cause → Type 0
IsTableFault Sized Satisfies Keeps count Size = ¬ Sized
IsTableFault Sized Satisfies Keeps count Identity = Sized × ¬ Satisfies
IsTableFault Sized Satisfies Keeps count (Breaks relation) =
    HasIdentities Sized Satisfies × IsFirstWithout Keeps count relation
IsTableFault Sized Satisfies Keeps count cause = ⊥

-- the operation preserves the relation with the number
abbrev pub Keeps : LanguageView → Operation → ℕ → Type 0
Keeps lang f r = Preserves f (relation_of lang r)

-- so does the set function
abbrev pub KeepsSets : LanguageView → SetFunctionView → ℕ → Type 0
KeepsSets lang g r = PreservesSets g (relation_of lang r)

-- why an operation is none that satisfies the identities and preserves each relation
abbrev pub IsOperationFault : (Operation → Type 0) → LanguageView → Operation → Cause → Type 0
IsOperationFault identities lang f cause =
    IsTableFault (IsOperation f) (identities f) (Keeps lang f) (length lang.relations) cause

-- why a set function is none that preserves each relation; there are no identities
abbrev pub IsSetFault : LanguageView → SetFunctionView → Cause → Type 0
IsSetFault lang g cause = IsTableFault (IsSetFunction g) ⊤ (KeepsSets lang g) (length lang.relations) cause

-- the verdict on the cells of an operation of K arguments
abbrev pub IsOperationVerdict : (Operation → Type 0) → ℕ → LanguageView → List ℕ → Verdict → Type 0
IsOperationVerdict identities K lang cells verdict =
    IsJudged (IsTable identities K lang cells)
    (IsOperationFault identities lang (operation_of lang.domain K cells)) verdict

-- the verdict on the cells of a set function
abbrev pub IsSetVerdict : LanguageView → List ℕ → Verdict → Type 0
IsSetVerdict lang cells verdict =
    IsJudged (IsSetTable lang cells) (IsSetFault lang (record { domain = lang.domain; cells = cells })) verdict

-- the verdict on the cells of a table of the class
abbrev pub IsTableVerdict : ClassName → LanguageView → List ℕ → Verdict → Type 0
IsTableVerdict Constant lang cells verdict = IsOperationVerdict IsConstant 1 lang cells verdict
IsTableVerdict Semilattice lang cells verdict = IsOperationVerdict IsSemilattice 2 lang cells verdict
IsTableVerdict SetFunction lang cells verdict = IsSetVerdict lang cells verdict
IsTableVerdict Majority lang cells verdict = IsOperationVerdict IsNearUnanimity 3 lang cells verdict
IsTableVerdict Nu4 lang cells verdict = IsOperationVerdict IsNearUnanimity 4 lang cells verdict
IsTableVerdict Affine lang cells verdict = IsOperationVerdict IsAffine 3 lang cells verdict
IsTableVerdict Maltsev lang cells verdict = IsOperationVerdict IsMaltsev 3 lang cells verdict

-- ---- the answer of an instance

-- the assignment meets the constraint with the number
abbrev pub MeetsAt : LanguageView → InstanceView → List ℕ → ℕ → Type 0
MeetsAt lang inst values c = Meets lang (constraint_of inst c) values

-- why values are no solution: they are not a value of the domain for each variable; or else a constraint is not met,
-- the first of the instance
abbrev pub IsAssignmentFault : LanguageView → InstanceView → List ℕ → Cause → Type 0
IsAssignmentFault lang inst values Assignment = ¬ IsTuple lang.domain (length inst.variables) values
IsAssignmentFault lang inst values (Constraint c) =
    IsTuple lang.domain (length inst.variables) values
    × IsFirstWithout (MeetsAt lang inst values) (length inst.constraints) c
IsAssignmentFault lang inst values cause = ⊥

-- the verdict on a solution
abbrev pub IsSolutionVerdict : LanguageView → List ℕ → InstanceView → Verdict → Type 0
IsSolutionVerdict lang values inst verdict =
    IsJudged (IsSolution lang inst values) (IsAssignmentFault lang inst values) verdict

-- why a log is not valid: its first fault
abbrev pub IsLogFault : LanguageView → InstanceView → List StepView → Cause → Type 0
IsLogFault lang inst log (BadLog fault) = IsFirstLogFault lang inst log fault
IsLogFault lang inst log cause = ⊥

-- the verdict on a log
abbrev pub IsLogVerdict : LanguageView → List StepView → InstanceView → Verdict → Type 0
IsLogVerdict lang log inst verdict = IsJudged (IsValidLog lang inst log) (IsLogFault lang inst log) verdict

-- why a combination is not valid: its first fault
abbrev pub IsSumFault : LanguageView → InstanceView → CombinationView → Cause → Type 0
IsSumFault lang inst sum (BadSum fault) = IsFirstSumFault lang inst sum fault
IsSumFault lang inst sum cause = ⊥

-- the verdict on a combination
abbrev pub IsSumVerdict : LanguageView → CombinationView → InstanceView → Verdict → Type 0
IsSumVerdict lang sum inst verdict = IsJudged (IsValidCombination lang inst sum) (IsSumFault lang inst sum) verdict

-- the verdict on an answer that has nothing to check
abbrev pub IsNoVerdict : InstanceView → Verdict → Type 0
IsNoVerdict inst verdict = verdict ≡ Unchecked

-- an instance of the file has the name, and the property
pub record HasNamed (P : InstanceView → Type 0) (file : FileView) (name : List ℕ) : Type 0 where
  pub number : ℕ
  pub known : number < length file.instances
  pub name_is : (instance_of file number).name ≡ name
  pub holds : P (instance_of file number)

-- the verdict on the answer of the instance with the name, where there is one
pub data IsAnswerVerdict (Judges : InstanceView → Verdict → Type 0) (file : FileView) (name : List ℕ)
    (verdict : Verdict) : Type 0 where
  unknown : ¬ Contains (instance_names file) name → verdict ≡ Rejected Unknown
      → IsAnswerVerdict Judges file name verdict
  named : HasNamed (λ inst. Judges inst verdict) file name → IsAnswerVerdict Judges file name verdict

-- ---- the item

-- the verdict on the item
abbrev pub IsVerdict : FileView → Item → Verdict → Type 0
IsVerdict file (item.ClassTable class cells) verdict = IsTableVerdict class file.language cells verdict
IsVerdict file (item.ClassNone class) verdict = verdict ≡ Unchecked
IsVerdict file item.ClassBeyond verdict = verdict ≡ Unchecked
IsVerdict file (item.Yes name class values) verdict =
    IsAnswerVerdict (IsSolutionVerdict file.language values) file name verdict
IsVerdict file (item.YesSizes name values sizes) verdict =
    IsAnswerVerdict (IsSolutionVerdict file.language values) file name verdict
IsVerdict file (item.NoLog name class log) verdict =
    IsAnswerVerdict (IsLogVerdict file.language log) file name verdict
IsVerdict file (item.NoSum name combination) verdict =
    IsAnswerVerdict (IsSumVerdict file.language combination) file name verdict
IsVerdict file (item.NoSizes name sizes) verdict = IsAnswerVerdict IsNoVerdict file name verdict
IsVerdict file (item.Undecided name) verdict = IsAnswerVerdict IsNoVerdict file name verdict
