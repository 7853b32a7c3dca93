-- What a reader of verdicts may rely on.
use Rattle.std.specs.Prelude.{◌≡◌, ◌↔◌, ℕ, ◌<◌, List, length, Option, Some, None, Contains}
use Rattle.pol_base.specs.declared.class_name.ClassName.{ClassName}
use Rattle.pol_base.specs.Tuples.{IsTuple}
use Rattle.pol_relation.specs.Instances.{IsSolution, HasNoSolution}
use Rattle.pol_optable.specs.ClassLines.{IsTableOf}
use Rattle.pol_optable.specs.Laws.{table_cells}
use Rattle.pol_nogood.specs.Logs.{StepView}
use Rattle.pol_modp.specs.Combinations.{CombinationView}
use Rattle.pol_lang.specs.Files.{FileView, IsFile, instance_of, instance_names}
use Rattle.pol_report.specs.declared.item.Item.{Item}
use Rattle.pol_report.specs.declared.item.Item.TheVariants as item
use Rattle.pol_checker.specs.declared.verdict.Cause.TheVariants.{Unknown, Size}
use Rattle.pol_checker.specs.declared.verdict.Verdict.{Verdict}
use Rattle.pol_checker.specs.declared.verdict.Verdict.TheVariants.{Accepted, Rejected}
use Rattle.pol_checker.specs.Verdicts.{HasNamed, IsVerdict}

-- an item has at most one verdict
abbrev pub VerdictIsOne : Type 0
VerdictIsOne =
    (file : FileView) (told : Item) (one other : Verdict)
    → IsFile file
    → IsVerdict file told one
    → IsVerdict file told other
    → one ≡ other

-- a file has at most one instance of a name
abbrev pub NamedIsOne : Type 0
NamedIsOne =
    (file : FileView) (i j : ℕ)
    → IsFile file
    → i < length file.instances
    → j < length file.instances
    → (instance_of file i).name ≡ (instance_of file j).name
    → i ≡ j

-- the name of the instance that the item answers
abbrev pub answered : Item → Option (List ℕ)
answered (item.ClassTable class cells) = None
answered (item.ClassNone class) = None
answered item.ClassBeyond = None
answered (item.Yes name class values) = Some name
answered (item.YesSizes name values sizes) = Some name
answered (item.NoLog name class log) = Some name
answered (item.NoSum name combination) = Some name
answered (item.NoSizes name sizes) = Some name
answered (item.Undecided name) = Some name

-- an answer is unknown exactly where no instance of the file has its name
abbrev pub UnknownIsAbsent : Type 0
UnknownIsAbsent =
    (file : FileView) (told : Item) (name : List ℕ)
    → answered told ≡ Some name
    → IsVerdict file told (Rejected Unknown) ↔ ¬ Contains (instance_names file) name

-- a table is rejected for its size exactly where it is not a value of the domain for each cell of its class
abbrev pub SizeIsOfCells : Type 0
SizeIsOfCells =
    (file : FileView) (class : ClassName) (cells : List ℕ)
    → IsVerdict file (item.ClassTable class cells) (Rejected Size)
    ↔ ¬ IsTuple file.language.domain (table_cells class file.language.domain) cells

-- the table of a class is accepted exactly where it is one of the class for the file's language
abbrev pub TablesAreOfTheirClass : Type 0
TablesAreOfTheirClass =
    (file : FileView) (class : ClassName) (cells : List ℕ)
    → IsVerdict file (item.ClassTable class cells) Accepted ↔ IsTableOf class file.language cells

-- a solution is accepted exactly where it is one of the instance with the name
abbrev pub YesIsASolution : Type 0
YesIsASolution =
    (file : FileView) (name : List ℕ) (class : ClassName) (values : List ℕ)
    → IsVerdict file (item.Yes name class values) Accepted
    ↔ HasNamed (λ inst. IsSolution file.language inst values) file name

-- so it is with sizes, which are not checked
abbrev pub YesSizesIsASolution : Type 0
YesSizesIsASolution =
    (file : FileView) (name values sizes : List ℕ)
    → IsVerdict file (item.YesSizes name values sizes) Accepted
    ↔ HasNamed (λ inst. IsSolution file.language inst values) file name

-- an instance with an accepted log has no solution
abbrev pub LogsRefute : Type 0
LogsRefute =
    (file : FileView) (name : List ℕ) (class : ClassName) (log : List StepView)
    → IsVerdict file (item.NoLog name class log) Accepted
    → HasNamed (HasNoSolution file.language) file name

-- an instance with an accepted combination has no solution
abbrev pub SumsRefute : Type 0
SumsRefute =
    (file : FileView) (name : List ℕ) (combination : CombinationView)
    → IsFile file
    → IsVerdict file (item.NoSum name combination) Accepted
    → HasNamed (HasNoSolution file.language) file name
