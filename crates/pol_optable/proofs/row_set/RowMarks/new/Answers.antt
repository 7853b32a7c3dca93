use Rattle.std.proofs.Common.{ℕ, Option, None, Some, refl, ◌≤◌, ◌^◌, arith}
use Rattle.std.specs.Option.{IsNone, IsSome}
use Rattle.pol_optable.proofs.RowSetLemmas.{relation_cells}
use Rattle.pol_optable.proofs.row_set.RowMarks.new.Goals as goal

is_some : (found : Option ℕ) → (IsNone found → ⊥) → IsSome found
is_some None not_none = absurd (not_none refl)
is_some (Some n) not_none = refl

-- a relation has few cells
pub unwrap-cell_count-requires : goal.unwrap-cell_count-requires
unwrap-cell_count-requires c =
    let few : c.domain.result ^ c.arity.result ≤ 15625 =
    rw (c.domain.ensures.domain, c.arity.ensures.arity) (relation_cells c.args.relation.now c.len-count.ensures.relation) in
    is_some c.cells.result (λ none. omega (arith, few, c.cells.ensures.none.0 none))
