-- Affine tables by the numbers of their labels.
use Rattle.std.specs.Prelude.{◌≡◌, ℕ, ◌<◌, List, Option, Some, None, ⊤}
use Rattle.pol_base.specs.Tuples.{IsBefore, cell_of}
use Rattle.pol_relation.specs.Relations.{LanguageView}
use Rattle.pol_optable.specs.Operations.{Operation, operation_of}
use Rattle.pol_optable.specs.Tables.{IsOpTable}
use Rattle.pol_optable.specs.Identities.{IsAffine}
use Rattle.pol_optable.specs.ClassLines.{IsTable}
use Rattle.pol_identity.specs.Labels.{IsAffineLabelling}

-- the operation on d values that the labels turn into x - y + z
pub record IsTableBy (d : ℕ) (labels : List ℕ) (f : Operation) : Type 0 where
  pub domain_is : f.domain ≡ d
  pub is_table : IsOpTable 3 f
  pub affine : IsAffineLabelling f labels

-- labels whose number is below n turn the operation with these cells into x - y + z
pub record IsToldBelow (d n : ℕ) (cells : List ℕ) : Type 0 where
  pub labels : List ℕ
  pub number : cell_of d labels < n
  pub affine : IsAffineLabelling (operation_of d 3 cells) labels

-- the cells of an affine operation that preserves each relation, told by labels whose number is below n
pub record IsTableBelow (lang : LanguageView) (n : ℕ) (cells : List ℕ) : Type 0 where
  pub table : IsTable IsAffine 3 lang cells
  pub told : IsToldBelow lang.domain n cells

-- the cells come before the others, if there are others
abbrev pub IsAhead : List ℕ → Option (List ℕ) → Type 0
IsAhead cells None = ⊤
IsAhead cells (Some others) = IsBefore cells others
