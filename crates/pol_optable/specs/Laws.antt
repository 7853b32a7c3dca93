-- What a reader of class lines may rely on.
use Rattle.std.specs.Prelude.{◌≡◌, ◌<◌, ◌↔◌, ℕ, ◌^◌, ◌-◌, length, List}
use Rattle.std.specs.Prelude.{[], ◌∷◌, replicate, slice_index, Option, Some, None, All}
use Rattle.pol_base.specs.declared.class_name.ClassName.{ClassName}
use Rattle.pol_base.specs.declared.class_name.ClassName.TheVariants.{Constant, Semilattice, SetFunction, Majority}
use Rattle.pol_base.specs.declared.class_name.ClassName.TheVariants.{Nu4, Affine, Maltsev}
use Rattle.pol_relation.specs.Relations.{LanguageView, IsLanguage}
use Rattle.pol_relation.specs.Weights.{weight_of}
use Rattle.pol_optable.specs.Operations.{Operation, operation_of, value_at}
use Rattle.pol_optable.specs.Constants.{ClosedUnder}
use Rattle.pol_optable.specs.ClassLines.{IsTableOf, Line, ClassLine, Serves, IsFirstOf, Chooses, all_classes}
use Rattle.pol_optable.specs.ClassLines.Line.{Beyond, Sought}
use Rattle.pol_optable.specs.Choices.{FirstFound, AreLines}
use Rattle.pol_optable.specs.declared.classes.Classes.{Classes}

-- a class has at most one line for a language
abbrev pub LineIsOne : Type 0
LineIsOne =
    (class : ClassName) (lang : LanguageView) (one other : Line)
    → ClassLine class lang one
    → ClassLine class lang other
    → one ≡ other

-- only `nu4` is ever beyond, and exactly where the fourth powers of the numbers of rows sum to more than 2^21
abbrev pub BeyondIsNu4Alone : Type 0
BeyondIsNu4Alone =
    (class : ClassName) (lang : LanguageView)
    → ClassLine class lang Beyond ↔ ((class ≡ Nu4) × (2097152 < weight_of 4 lang.relations))

-- where a language is closed under a value, the line of `constant` is the least such value throughout
abbrev pub ConstantLineFound : Type 0
ConstantLineFound =
    (lang : LanguageView) (a : ℕ)
    → IsLanguage lang
    → a < lang.domain
    → ClosedUnder lang a
    → ((b : ℕ) → b < a → ¬ ClosedUnder lang b)
    → ClassLine Constant lang (Sought (Some (replicate lang.domain a)))

-- where a language is closed under no value, the line of `constant` is none
abbrev pub ConstantLineNone : Type 0
ConstantLineNone =
    (lang : LanguageView)
    → IsLanguage lang
    → ((a : ℕ) → a < lang.domain → ¬ ClosedUnder lang a)
    → ClassLine Constant lang (Sought None)

-- the value in the line of `constant` is one of the domain, and the language is closed under it
abbrev pub ConstantLineTells : Type 0
ConstantLineTells =
    (lang : LanguageView) (cells : List ℕ)
    → IsLanguage lang
    → ClassLine Constant lang (Sought (Some cells))
    → (slice_index cells 0 < lang.domain) × ClosedUnder lang (slice_index cells 0)

-- a language has at most one chosen class, and not beside none
abbrev pub ChoiceIsOne : Type 0
ChoiceIsOne =
    (lang : LanguageView) (one other : Option ClassName)
    → Chooses lang one
    → Chooses lang other
    → one ≡ other

-- a class that serves is chosen before all that are tried after it
abbrev pub EarlierIsChosen : Type 0
EarlierIsChosen =
    (lang : LanguageView) (class : ClassName) (later : List ClassName)
    → Serves lang class
    → IsFirstOf (Serves lang) (class ∷ later) class

-- a class that does not serve is passed over
abbrev pub OtherIsPassedOver : Type 0
OtherIsPassedOver =
    (lang : LanguageView) (class chosen : ClassName) (later : List ClassName)
    → ¬ Serves lang class
    → IsFirstOf (Serves lang) later chosen
    → IsFirstOf (Serves lang) (class ∷ later) chosen

-- where the lines of the classes were found, the first class of which there is a table is the chosen one
abbrev pub FoundIsChosen : Type 0
FoundIsChosen =
    (lang : LanguageView) (classes : Classes) (first : Option ClassName)
    → AreLines lang classes
    → FirstFound classes first
    → Chooses lang first

-- where a language is closed under a value, `constant` is chosen
abbrev pub ConstantIsChosen : Type 0
ConstantIsChosen =
    (lang : LanguageView) (a : ℕ)
    → IsLanguage lang
    → a < lang.domain
    → ClosedUnder lang a
    → ((b : ℕ) → b < a → ¬ ClosedUnder lang b)
    → Chooses lang (Some Constant)

-- where the line of no class holds a table, no class is chosen
abbrev pub NoneIsChosen : Type 0
NoneIsChosen =
    (lang : LanguageView)
    → All (λ class. ClassLine class lang (Sought None)) all_classes
    → Chooses lang None

-- f(x, x, y) = f(x, y, x) = f(y, x, x) = x
pub record IsMajorityAt (f : Operation) (x y : ℕ) : Type 0 where
  pub last : value_at f (x ∷ x ∷ y ∷ []) ≡ x
  pub middle : value_at f (x ∷ y ∷ x ∷ []) ≡ x
  pub first : value_at f (y ∷ x ∷ x ∷ []) ≡ x

-- the operation of a table of `majority` is a majority operation
abbrev pub MajorityTable : Type 0
MajorityTable =
    (lang : LanguageView) (cells : List ℕ) (x y : ℕ)
    → IsTableOf Majority lang cells
    → x < lang.domain
    → y < lang.domain
    → IsMajorityAt (operation_of lang.domain 3 cells) x y

-- how many cells a table of the class has on a domain of d values
abbrev pub table_cells : ClassName → ℕ → ℕ
table_cells Constant d = d
table_cells Semilattice d = d ^ 2
table_cells SetFunction d = 2 ^ d - 1
table_cells Majority d = d ^ 3
table_cells Nu4 d = d ^ 4
table_cells Affine d = d ^ 3
table_cells Maltsev d = d ^ 3

-- the tables of a class for a language all have so many cells
abbrev pub TableIsLong : Type 0
TableIsLong =
    (class : ClassName) (lang : LanguageView) (cells : List ℕ)
    → IsTableOf class lang cells
    → length cells ≡ table_cells class lang.domain
