-- Cells that share a variable: what ties make of a list of cells.
use Rattle.std.specs.Prelude.{◌≡◌, ◌<◌, ◌≤◌, ◌↔◌, ℕ, List, length, slice_index, All}
use Rattle.pol_base.specs.Masks.{AreMasks, IsWithin}
use Rattle.pol_relation.specs.Instances.{ConstraintView, read_at}

-- the tie of a cell is itself, or a lower cell
abbrev pub AreTies : List ℕ → Type 0
AreTies ties = (c : ℕ) → c < length ties → slice_index ties c ≤ c

-- equal at tied cells
abbrev pub AreTied : List ℕ → List ℕ → Type 0
AreTied ties xs = (c : ℕ) → c < length ties → slice_index xs c ≡ slice_index xs (slice_index ties c)

-- within the masks, equal at tied cells, and wanted
pub record IsFoundTied (W : List ℕ → Type 0) (masks ties xs : List ℕ) : Type 0 where
  pub within : IsWithin masks xs
  pub tied : AreTied ties xs
  pub wanted : W xs

-- the first cell of a variable, behind cells of lower variables alone
pub record IsFirstCell (variables : List ℕ) (v cell : ℕ) : Type 0 where
  pub inside : cell < length variables
  pub here : slice_index variables cell ≡ v
  pub lower : (k : ℕ) → k < cell → slice_index variables k < v

-- the variable of each cell, numbered in the order in which they come first, and the first cell of each variable
pub record AreVariables (firsts variables : List ℕ) : Type 0 where
  pub below : All (λ v. v < length firsts) variables
  pub first : (v : ℕ) → v < length firsts → IsFirstCell variables v (slice_index firsts v)

-- the variables of the first cells: tied cells share one, and tied lists have one value at all cells of a variable
pub record IsNumbered (ties : List ℕ) (count : ℕ) (firsts variables : List ℕ) : Type 0 where
  pub long : length variables ≡ count
  pub variables_are : AreVariables firsts variables
  pub few : length firsts ≤ count
  pub shared : (c : ℕ) → c < count → slice_index variables c ≡ slice_index variables (slice_index ties c)
  pub one : (xs : List ℕ) → AreTied ties xs → (c : ℕ) → c < count
      → slice_index xs c ≡ slice_index xs (slice_index firsts (slice_index variables c))

-- masks of variables: a list is within them exactly where it is within the masks of the cells, spread to these
pub record AreShared (firsts variables cells masks : List ℕ) : Type 0 where
  pub long : length masks ≡ length firsts
  pub are_masks : (d : ℕ) → AreMasks d cells → AreMasks d masks
  pub within : (xs : List ℕ) → length xs ≡ length firsts
      → IsWithin masks xs ↔ IsWithin cells (read_at xs variables)

-- the constraint on cells, as one on their variables
abbrev pub on_variables : List ℕ → ConstraintView → ConstraintView
on_variables variables c = record { relation = c.relation; scope = read_at variables c.scope }

-- lists of values of n variables, for conditions that are defined for the numbers of cells of T
pub record TakesSpread (T : ℕ → Type 0) (firsts variables : List ℕ) (n : ℕ) : Type 0 where
  pub taken : T (length variables)
  pub counted : n ≡ length firsts
  pub few : length variables ≤ 4096
  pub variables_are : AreVariables firsts variables
