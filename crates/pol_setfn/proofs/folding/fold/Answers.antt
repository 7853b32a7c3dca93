use Rattle.std.proofs.Common.{ℕ, ◌+◌, ◌<◌, ◌≤◌, Option, Some, None, length, length-set, refl, sym, ◌∙◌, arith}
use Rattle.std.specs.Option.{IsSome}
use Rattle.std.specs.Prelude.{IfNone}
use Rattle.std.proofs.lemmas.List.{length-take-le}
use Rattle.pol_optable.specs.SetFunctions.{SetFunctionView}
use Rattle.pol_setfn.specs.Folds.{IsFoldAt}
use Rattle.pol_setfn.proofs.FoldingLemmas.{put_more, few_sets, front_function, front_fold}
use Rattle.pol_setfn.proofs.folding.fold.Goals as goal

pub bounds-cells-cell : goal.bounds-cells-cell
bounds-cells-cell c =
    let few = few_sets c.domain-d.result c.args.op.now.domain c.full_mask-count.result c.full_mask-count.ensures.mask c.domain-d.ensures.domain c.domain-d.ensures.table.domain_is.few in
    omega (arith, few, c.loop-cell-test.true)

pub loop-cell-preserved : goal.loop-cell-preserved
loop-cell-preserved c =
    let f = c.args.op.now in
    let before = c.loop-cell.invariant in
    let few = few_sets c.domain-d.result f.domain c.full_mask-count.result c.full_mask-count.ensures.mask c.domain-d.ensures.domain c.domain-d.ensures.table.domain_is.few in
    let inside : c.loop-cell.cell < length c.loop-cell.cells = omega (arith, before.long, few, c.loop-cell-test.true) in
    record {
      long = length-set c.loop-cell.cells c.loop-cell.cell c.fold_at.result ∙ before.long;
      folds = put_more (λ k v. IsFoldAt f (k + 1) v) c.loop-cell.cells c.loop-cell.cell c.fold_at.result inside before.folds c.fold_at.ensures.fold;
      below = put_more (λ k v. v < f.domain) c.loop-cell.cells c.loop-cell.cell c.fold_at.result inside before.below c.fold_at.ensures.below;
    }

pub slice_bounds-cells-end : goal.slice_bounds-cells-end
slice_bounds-cells-end c =
    let few = few_sets c.domain-d.result c.args.op.now.domain c.full_mask-count.result c.full_mask-count.ensures.mask c.domain-d.ensures.domain c.domain-d.ensures.table.domain_is.few in
    omega (arith, few, c.loop-cell.invariant.long)

pub slice_bounds-from_cells-end : goal.slice_bounds-from_cells-end
slice_bounds-from_cells-end c =
    let few = few_sets c.domain-d.result c.args.op.now.domain c.full_mask-count.result c.full_mask-count.ensures.mask c.domain-d.ensures.domain c.domain-d.ensures.table.domain_is.few in
    sym (length-take-le c.full_mask-count.result c.loop-cell.cells (omega (arith, few, c.loop-cell.invariant.long)))

is_made : (made : Option SetFunctionView) (P : Type 0) → IfNone made (¬ P) → P → IsSome made
is_made None P none holds = absurd (none holds)
is_made (Some g) P none holds = refl

pub unwrap-requires : goal.unwrap-requires
unwrap-requires c =
    let f = c.args.op.now in
    let count = c.full_mask-count.result in
    let few = few_sets c.domain-d.result f.domain count c.full_mask-count.ensures.mask c.domain-d.ensures.domain c.domain-d.ensures.table.domain_is.few in
    let room : count ≤ length c.loop-cell.cells = omega (arith, few, c.loop-cell.invariant.long) in
    let all : (k : ℕ) → k < count → k < c.loop-cell.cell = λ k less. omega (arith, less, c.loop-cell-test.false) in
    is_made c.in_ok-made.made _ c.in_ok-made.ensures.none
    (front_function f c.domain-d.result count c.loop-cell.cells c.domain-d.ensures.domain c.full_mask-count.ensures.all room (λ k less. c.loop-cell.invariant.below k (all k less)))

pub returns : goal.returns
returns c =
    let f = c.args.op.now in
    let count = c.full_mask-count.result in
    let few = few_sets c.domain-d.result f.domain count c.full_mask-count.ensures.mask c.domain-d.ensures.domain c.domain-d.ensures.table.domain_is.few in
    let room : count ≤ length c.loop-cell.cells = omega (arith, few, c.loop-cell.invariant.long) in
    let all : (k : ℕ) → k < count → k < c.loop-cell.cell = λ k less. omega (arith, less, c.loop-cell-test.false) in
    let made = rw c.unwrap.ensures at c.in_ok-made.ensures.made in
    record {
      fold = rw made (front_fold f c.domain-d.result count c.loop-cell.cells c.domain-d.ensures.domain c.full_mask-count.ensures.all room
          (λ k less. c.loop-cell.invariant.below k (all k less)) (λ k less. c.loop-cell.invariant.folds k (all k less)));
    }
