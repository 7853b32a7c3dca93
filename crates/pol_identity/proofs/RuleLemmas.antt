-- Rules that the arguments of a cell tell.
use Rattle.std.proofs.Common.{◌≡◌, ℕ, ◌<◌, List, length, subst}
use Rattle.pol_base.specs.Tuples.{IsTuple, cell_of, digits_of}
use Rattle.pol_base.proofs.CellLemmas.{cell_of-IsTuple, digits_of-cell_of-IsTuple}
use Rattle.pol_optable.specs.Operations.{Operation}
use Rattle.pol_optable.specs.Tables.{IsOpTable}
use Rattle.pol_identity.specs.declared.identity.CellRule.{CellRule}
use Rattle.pol_identity.specs.Rules.{Obeys, ObeysAll}
use Rattle.pol_identity.specs.CellLaws.{cells_long}

-- where each cell obeys, each tuple of arguments has the value that its rule says
pub obeys_at :
    (K : ℕ) (f : Operation) (rule_at : List ℕ → CellRule)
    → IsOpTable K f
    → ObeysAll f.cells (λ cell. rule_at (digits_of f.domain K cell))
    → (arguments : List ℕ)
    → IsTuple f.domain K arguments
    → Obeys f.cells (cell_of f.domain arguments) (rule_at arguments)
obeys_at K f rule_at is obeyed arguments tuple =
    let known : cell_of f.domain arguments < length f.cells
    = rw (cells_long K f is) (cell_of-IsTuple f.domain K arguments tuple) in
    let digits : digits_of f.domain K (cell_of f.domain arguments) ≡ arguments
    = digits_of-cell_of-IsTuple f.domain K arguments tuple in
    subst (λ (ds : List ℕ). Obeys f.cells (cell_of f.domain arguments) (rule_at ds)) digits
    (obeyed (cell_of f.domain arguments) known)
