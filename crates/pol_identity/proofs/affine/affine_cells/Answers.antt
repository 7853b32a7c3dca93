use Rattle.std.proofs.Common.{◌^◌, ◌<◌, ◌≤◌, arith, length, ◌∙◌}
use Rattle.std.proofs.lemmas.List.{length-set}
use Rattle.pol_base.specs.Tuples.{digits_of}
use Rattle.pol_identity.specs.Labels.{labelled}
use Rattle.pol_identity.specs.AffineRule.{sum_at}
use Rattle.pol_identity.proofs.AffineLemmas.{few_cells, cube, next_value, front_table, front_affine}
use Rattle.pol_identity.proofs.affine.affine_cells.Goals as goal

pub value_in-requires-clause-few : goal.value_in-requires-clause-few
value_in-requires-clause-few c =
    let few = few_cells c.args.d c.size.ensures.within.few in
    omega arith

pub value_in-requires-clause-known : goal.value_in-requires-clause-known
value_in-requires-clause-known c =
    let count = cube c.args.d c.from-size.result (c.from-size.ensures ∙ c.size.ensures.size) in
    omega (arith, count, c.loop-cell-test.true)

pub loop-cell-preserved : goal.loop-cell-preserved
loop-cell-preserved c =
    let d = c.args.d in
    let labels = c.args.labels.now in
    let cells = c.loop-cell.cells in
    let count = cube d c.from-size.result (c.from-size.ensures ∙ c.size.ensures.size) in
    let few = few_cells d c.size.ensures.within.few in
    let inside : c.loop-cell.cell < length cells
    = omega (arith, c.loop-cell-test.true, count, few, c.loop-cell.invariant.long) in
    record {
      long = length-set cells c.loop-cell.cell c.value_in.result ∙ c.loop-cell.invariant.long;
      values = next_value cells (λ k. labelled labels (sum_at labels d (digits_of d 3 k))) c.loop-cell.cell
          c.value_in.result inside c.loop-cell.invariant.values c.value_in.ensures.value;
    }

pub returns-clause-table : goal.returns-clause-table
returns-clause-table c =
    let d = c.args.d in
    let cells = c.loop-cell.cells in
    let count = cube d c.from-size.result (c.from-size.ensures ∙ c.size.ensures.size) in
    let few = few_cells d c.size.ensures.within.few in
    let fits : d ^ 3 ≤ length cells = omega (arith, few, c.loop-cell.invariant.long) in
    front_table d c.args.labels.now cells c.size.ensures.within c.requires.labelling fits
    (λ k within. c.loop-cell.invariant.values k (omega (arith, within, count, c.loop-cell-test.false)))

pub returns-clause-affine : goal.returns-clause-affine
returns-clause-affine c =
    let d = c.args.d in
    let cells = c.loop-cell.cells in
    let count = cube d c.from-size.result (c.from-size.ensures ∙ c.size.ensures.size) in
    let few = few_cells d c.size.ensures.within.few in
    let fits : d ^ 3 ≤ length cells = omega (arith, few, c.loop-cell.invariant.long) in
    front_affine d c.args.labels.now cells c.size.ensures.within c.requires.labelling fits
    (λ k within. c.loop-cell.invariant.values k (omega (arith, within, count, c.loop-cell-test.false)))
