-- Tables of operations, and of values that are still open.
use Rattle.std.specs.Prelude.{◌≡◌, ℕ, ◌^◌, ◌≤◌, List, length}
use Rattle.pol_base.specs.Tuples.{IsDomain}
use Rattle.pol_base.specs.Masks.{AreMasks}
use Rattle.pol_optable.specs.Operations.{Operation, IsOperation}

-- operations of K arguments on d values have at most 4,096 cells; so many arguments are too many of one value too
pub record IsTableSize (d K : ℕ) : Type 0 where
  pub some_arguments : 1 ≤ K
  pub few_arguments : K ≤ 4096
  pub few_cells : d ^ K ≤ 4096

-- an operation of K arguments with at most 4,096 cells
pub record IsOpTable (K : ℕ) (f : Operation) : Type 0 where
  pub arity_is : f.arity ≡ K
  pub domain_is : IsDomain f.domain
  pub is_operation : IsOperation f
  pub few_cells : f.domain ^ K ≤ 4096
  pub few_arguments : K ≤ 4096

-- tables whose value in each cell is open within a mask
pub record PartView : Type 0 where
  pub domain : ℕ
  pub masks : List ℕ

-- a nonempty mask of values below d for each cell of a table of K arguments
pub record IsPart (d K : ℕ) (masks : List ℕ) : Type 0 where
  pub domain_is : IsDomain d
  pub some_arguments : 1 ≤ K
  pub all_cells : length masks ≡ d ^ K
  pub are_masks : AreMasks d masks
  pub few_cells : d ^ K ≤ 4096
  pub few_arguments : K ≤ 4096
