-- The line of each class for a language, and the chosen class.
use Rattle.std.specs.Prelude.{◌≡◌, ℕ, ◌<◌, List, [], ◌∷◌, ◌++◌, Option, Some, None, All, ⊤}
use Rattle.pol_base.specs.Least.{AnswersLeast}
use Rattle.pol_base.specs.declared.class_name.ClassName.{ClassName}
use Rattle.pol_base.specs.declared.class_name.ClassName.TheVariants.{Constant, Semilattice, SetFunction, Majority}
use Rattle.pol_base.specs.declared.class_name.ClassName.TheVariants.{Nu4, Affine, Maltsev}
use Rattle.pol_relation.specs.Relations.{LanguageView}
use Rattle.pol_relation.specs.Weights.{weight_of, most_weight}
use Rattle.pol_optable.specs.Operations.{Operation, IsOperation, IsPolymorphism, operation_of}
use Rattle.pol_optable.specs.SetFunctions.{IsSetFunction, IsSetPolymorphism}
use Rattle.pol_optable.specs.Identities.{IsConstant, IsSemilattice, IsNearUnanimity, IsAffine, IsMaltsev}

-- the cells of an operation of K arguments that satisfies the identities and preserves each relation
pub record IsTable (identities : Operation → Type 0) (K : ℕ) (lang : LanguageView) (cells : List ℕ) : Type 0 where
  pub is_operation : IsOperation (operation_of lang.domain K cells)
  pub satisfies : identities (operation_of lang.domain K cells)
  pub preserves : IsPolymorphism (operation_of lang.domain K cells) lang

-- the cells of a set function that preserves each relation
pub record IsSetTable (lang : LanguageView) (cells : List ℕ) : Type 0 where
  pub is_set_function : IsSetFunction (record { domain = lang.domain; cells = cells })
  pub preserves : IsSetPolymorphism (record { domain = lang.domain; cells = cells }) lang

-- the cells are a table of the class for the language
abbrev pub IsTableOf : ClassName → LanguageView → List ℕ → Type 0
IsTableOf Constant lang cells = IsTable IsConstant 1 lang cells
IsTableOf Semilattice lang cells = IsTable IsSemilattice 2 lang cells
IsTableOf SetFunction lang cells = IsSetTable lang cells
IsTableOf Majority lang cells = IsTable IsNearUnanimity 3 lang cells
IsTableOf Nu4 lang cells = IsTable IsNearUnanimity 4 lang cells
IsTableOf Affine lang cells = IsTable IsAffine 3 lang cells
IsTableOf Maltsev lang cells = IsTable IsMaltsev 3 lang cells

-- the language is too large for a table of the class to be sought
abbrev pub IsBeyond : ClassName → LanguageView → Type 0
IsBeyond Constant lang = ⊥
IsBeyond Semilattice lang = ⊥
IsBeyond SetFunction lang = ⊥
IsBeyond Majority lang = ⊥
IsBeyond Nu4 lang = most_weight < weight_of 4 lang.relations
IsBeyond Affine lang = ⊥
IsBeyond Maltsev lang = ⊥

-- what the line of a class says: that nothing was sought, or the table that was sought, or that there is none
pub data Line : Type 0 where
  Beyond : Line
  Sought : Option (List ℕ) → Line

-- the line holds a table
abbrev pub HoldsTable : Line → Type 0
HoldsTable Beyond = ⊥
HoldsTable (Sought None) = ⊥
HoldsTable (Sought (Some cells)) = ⊤

-- the line of the class: `beyond` exactly where the language is too large; else its least table, and none exactly
-- where there is none
abbrev pub ClassLine : ClassName → LanguageView → Line → Type 0
ClassLine class lang Beyond = IsBeyond class lang
ClassLine class lang (Sought table) = (¬ IsBeyond class lang) × AnswersLeast (IsTableOf class lang) table

-- the line of the class holds a table
pub record Serves (lang : LanguageView) (class : ClassName) : Type 0 where
  pub cells : List ℕ
  pub line : ClassLine class lang (Sought (Some cells))

-- the classes, in the order in which they are tried
abbrev pub all_classes : List ClassName
all_classes = Constant ∷ Semilattice ∷ SetFunction ∷ Majority ∷ Nu4 ∷ Affine ∷ Maltsev ∷ []

-- the first of the classes of which it holds
pub record IsFirstOf (P : ClassName → Type 0) (classes : List ClassName) (class : ClassName) : Type 0 where
  pub before : List ClassName
  pub after : List ClassName
  pub split : classes ≡ before ++ class ∷ after
  pub holds : P class
  pub none_before : All (λ other. ¬ P other) before

-- the chosen class, the first that serves, and none exactly where no class serves
abbrev pub Chooses : LanguageView → Option ClassName → Type 0
Chooses lang None = All (λ class. ¬ Serves lang class) all_classes
Chooses lang (Some class) = IsFirstOf (Serves lang) all_classes class
