-- Masks and ties that say what the rules of cells ask.
use Rattle.std.specs.Prelude.{◌≡◌, ◌-◌, ◌^◌, ◌<◌, ◌≤◌, ℕ, List, [], length, slice_index}
use Rattle.pol_relation.specs.Relations.{LanguageView}
use Rattle.pol_optable.specs.Operations.{IsOperation, IsPolymorphism, operation_of}
use Rattle.pol_csp.specs.Problems.{ProblemView}
use Rattle.pol_identity.specs.declared.identity.CellRule.{CellRule}
use Rattle.pol_identity.specs.declared.identity.CellRule.TheVariants.{Free, Value, SameAs}
use Rattle.pol_identity.specs.Rules.{ObeysAll}

-- the values that the rule leaves open
abbrev pub mask_by : ℕ → CellRule → ℕ
mask_by d Free = 2 ^ d - 1
mask_by d (Value v) = 2 ^ v
mask_by d (SameAs other) = 2 ^ d - 1

-- the cell to which the rule ties a cell
abbrev pub tie_by : ℕ → CellRule → ℕ
tie_by cell Free = cell
tie_by cell (Value v) = cell
tie_by cell (SameAs other) = other

-- the first n cells are as their rules say, and the others are free
pub record AreRuled (d : ℕ) (rule : ℕ → CellRule) (n : ℕ) (masks ties : List ℕ) : Type 0 where
  pub counted : length ties ≡ length masks
  pub masks_by : (c : ℕ) → c < n → slice_index masks c ≡ mask_by d (rule c)
  pub ties_by : (c : ℕ) → c < n → slice_index ties c ≡ tie_by c (rule c)
  pub masks_free : (c : ℕ) → n ≤ c → c < length masks → slice_index masks c ≡ 2 ^ d - 1
  pub ties_free : (c : ℕ) → n ≤ c → c < length masks → slice_index ties c ≡ c

-- a problem of the cells of a table of K arguments that says what the rules ask, and has no constraint
pub record IsRuledProblem (d K : ℕ) (rule : ℕ → CellRule) (p : ProblemView) : Type 0 where
  pub domain_is : p.domain ≡ d
  pub all_cells : length p.masks ≡ d ^ K
  pub ruled : AreRuled d rule (d ^ K) p.masks p.ties
  pub no_constraint : p.constraints ≡ []

-- the problems have the same cells, with the same masks and ties
pub record SameCells (p q : ProblemView) : Type 0 where
  pub domain : q.domain ≡ p.domain
  pub masks : q.masks ≡ p.masks
  pub ties : q.ties ≡ p.ties

-- the cells of an operation of K arguments that obeys the rules and preserves each relation
pub record IsRuledTable (lang : LanguageView) (K : ℕ) (rule : ℕ → CellRule) (cells : List ℕ) : Type 0 where
  pub is_operation : IsOperation (operation_of lang.domain K cells)
  pub obeys : ObeysAll cells rule
  pub preserves : IsPolymorphism (operation_of lang.domain K cells) lang
