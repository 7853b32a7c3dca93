-- The cells of a table by their digits.
use Rattle.std.proofs.Common.{◌≡◌, ℕ, ◌^◌, ◌<◌, length, subst}
use Rattle.pol_base.specs.Tuples.{cell_of, digits_of}
use Rattle.pol_base.proofs.CellLemmas.{cell_of-digits_of}
use Rattle.pol_optable.specs.Operations.{Operation}
use Rattle.pol_optable.specs.Tables.{IsOpTable}
use Rattle.pol_identity.specs.declared.identity.CellRule.{CellRule}
use Rattle.pol_identity.specs.Rules.{Obeys, ObeysAll}

-- the table has a cell for each tuple of arguments
pub cells_long : (K : ℕ) (f : Operation) → IsOpTable K f → length f.cells ≡ f.domain ^ K
cells_long K f is = subst (λ (k : ℕ). length f.cells ≡ f.domain ^ k) is.arity_is is.is_operation.all_cells

-- every cell obeys where the cell that its digits write does
pub obeys_by_digits :
    (K : ℕ) (f : Operation) (rule : ℕ → CellRule)
    → IsOpTable K f
    → ((cell : ℕ) → cell < f.domain ^ K
    → Obeys f.cells (cell_of f.domain (digits_of f.domain K cell)) (rule cell))
    → ObeysAll f.cells rule
obeys_by_digits K f rule is obeys cell known =
    let within : cell < f.domain ^ K = subst (λ (n : ℕ). cell < n) (cells_long K f is) known in
    let writes : cell_of f.domain (digits_of f.domain K cell) ≡ cell
    = cell_of-digits_of f.domain K cell is.domain_is.some within in
    subst (λ (c : ℕ). Obeys f.cells c (rule cell)) writes (obeys cell within)
