use Rattle.std.proofs.Common.{◌≡◌, ◌-◌, ◌<◌, ◌^◌, ap, ◌∙◌, arith}
use Rattle.pol_setfn.proofs.OpenLemmas.{open_first, open_more, single_mask, single_cell}
use Rattle.pol_setfn.proofs.open_cells.cells_for.Goals.{then-idempotent+else-loop-value-test, else-idempotent}
use Rattle.pol_setfn.proofs.open_cells.cells_for.Goals as goal

pub loop-value-init : goal.loop-value-init
loop-value-init c = rw c.in_ok-cells.ensures.ok (open_first c.args.d c.args.idempotent c.from.result (c.from.ensures ∙ c.full_mask.ensures.all))

pub restrict-requires-clause-cell : goal.restrict-requires-clause-cell
restrict-requires-clause-cell c =
    let below : c.loop-value.value < c.args.d = omega (arith, c.loop-value-test.true, c.size-value-end.ensures.size) in
    single_cell c.args.d c.loop-value.value c.from-in-loop-value.result _ below (c.from-in-loop-value.ensures ∙ c.value_mask-mask.ensures.mask) c.loop-value.invariant.all_cells

pub restrict-requires-clause-mask : goal.restrict-requires-clause-mask
restrict-requires-clause-mask c =
    let below : c.loop-value.value < c.args.d = omega (arith, c.loop-value-test.true, c.size-value-end.ensures.size) in
    rw c.loop-value.invariant.domain_is (single_mask c.args.d c.loop-value.value c.value_mask-mask.result below c.value_mask-mask.ensures.mask)

pub loop-value-preserved : goal.loop-value-preserved
loop-value-preserved c =
    let below : c.loop-value.value < c.args.d = omega (arith, c.loop-value-test.true, c.size-value-end.ensures.size) in
    let at : c.from-in-loop-value.result - 1 ≡ 2 ^ c.loop-value.value - 1 = ap (λ m. m - 1) (c.from-in-loop-value.ensures ∙ c.value_mask-mask.ensures.mask) in
    rw c.restrict.ensures.put (open_more c.args.d c.args.idempotent c.loop-value.cells c.loop-value.value (c.from-in-loop-value.result - 1) c.value_mask-mask.result c.if-idempotent.true below c.value_mask-mask.ensures.mask at c.loop-value.invariant)

pub returns : goal.returns
returns c = record {
  cells = elim c.if-idempotent.branch [
    | then-idempotent+else-loop-value-test w ↦ rw w.cells-is w.loop-value.invariant
    | else-idempotent w ↦ rw (w.cells-is, c.in_ok-cells.ensures.ok) (open_first c.args.d c.args.idempotent c.from.result (c.from.ensures ∙ c.full_mask.ensures.all))
  ];
}
