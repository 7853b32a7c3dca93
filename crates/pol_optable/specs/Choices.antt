-- The tables of the classes that were found, and the first class that has one.
use Rattle.std.specs.Prelude.{Option, Some, None, option_map, All, ⊤}
use Rattle.pol_base.specs.declared.class_name.ClassName.{ClassName}
use Rattle.pol_base.specs.declared.class_name.ClassName.TheVariants.{Constant, Semilattice, SetFunction, Majority}
use Rattle.pol_base.specs.declared.class_name.ClassName.TheVariants.{Nu4, Affine, Maltsev}
use Rattle.pol_relation.specs.Relations.{LanguageView}
use Rattle.pol_optable.specs.ClassLines.{Line, ClassLine, IsTableOf, HoldsTable, IsFirstOf, all_classes}
use Rattle.pol_optable.specs.ClassLines.Line.{Beyond, Sought}
use Rattle.pol_optable.specs.declared.classes.Classes.{Classes}
use Rattle.pol_optable.specs.declared.classes.Nu4.{Nu4 as Nu4Line}
use Rattle.pol_optable.specs.declared.classes.Nu4.TheVariants as nu4

-- what was found of arity four, as a line
abbrev pub nu4_line : Nu4Line → Line
nu4_line nu4.Beyond = Beyond
nu4_line nu4.Absent = Sought None
nu4_line (nu4.Found f) = Sought (Some f.cells)

-- it is the line of `nu4` for the language
abbrev pub IsNu4Line : LanguageView → Nu4Line → Type 0
IsNu4Line lang found = ClassLine Nu4 lang (nu4_line found)

-- what was found of the class, as a line
abbrev pub line_in : Classes → ClassName → Line
line_in classes Constant = Sought (option_map (λ f. f.cells) classes.constant)
line_in classes Semilattice = Sought (option_map (λ f. f.cells) classes.semilattice)
line_in classes SetFunction = Sought (option_map (λ g. g.cells) classes.setfn)
line_in classes Majority = Sought (option_map (λ f. f.cells) classes.majority)
line_in classes Nu4 = nu4_line classes.nu4
line_in classes Affine = Sought (option_map (λ f. f.cells) classes.affine)
line_in classes Maltsev = Sought (option_map (λ f. f.cells) classes.maltsev)

-- a table of the class was found
abbrev pub HasTable : Classes → ClassName → Type 0
HasTable classes class = HoldsTable (line_in classes class)

-- the first class of which a table was found, and none exactly where there is no table
abbrev pub FirstFound : Classes → Option ClassName → Type 0
FirstFound classes None = All (λ class. ¬ HasTable classes class) all_classes
FirstFound classes (Some class) = IsFirstOf (HasTable classes) all_classes class

-- the line of each class for the language was found
abbrev pub AreLines : LanguageView → Classes → Type 0
AreLines lang classes = (class : ClassName) → ClassLine class lang (line_in classes class)

-- the line holds no table, or one of the class for the language
abbrev pub HoldsNoOther : ClassName → LanguageView → Line → Type 0
HoldsNoOther class lang Beyond = ⊤
HoldsNoOther class lang (Sought None) = ⊤
HoldsNoOther class lang (Sought (Some cells)) = IsTableOf class lang cells

-- each table that was found is one of its class for the language
abbrev pub AreTables : LanguageView → Classes → Type 0
AreTables lang classes = (class : ClassName) → HoldsNoOther class lang (line_in classes class)
