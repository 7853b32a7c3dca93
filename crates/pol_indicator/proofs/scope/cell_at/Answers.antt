use Rattle.std.proofs.Common.{◌≡◌, ◌<◌, ◌≤◌, length, get_or, arith, sym, ap, refl, ◌∙◌}
use Rattle.std.proofs.lemmas.List.{take_all}
use Rattle.std.proofs.lemmas.Nat.{mul-le}
use Rattle.pol_base.specs.Tuples.{cell_of}
use Rattle.pol_optable.specs.Operations.{column}
use Rattle.pol_optable.specs.Breaks.{rows_at}
use Rattle.pol_indicator.proofs.ColumnLemmas.{cell_step, column_cell, column_at, length-column}
use Rattle.pol_indicator.proofs.scope.cell_at.Goals as goal

pub overflow_mul-cell : goal.overflow_mul-cell
overflow_mul-cell g c =
    let within = column_cell c.args.r.now c.args.numbers.now c.args.place c.loop-number.number g.row.K c.domain.ensures.relation c.requires.place c.requires.rows c.told-numbers in
    let small : c.from-size.result ≤ 5 = omega (arith, c.from-size.ensures, c.size.ensures.size, c.size.ensures.within.few) in
    omega (arith, within, c.requires.few_cells, c.loop-number.invariant, mul-le c.loop-number.cell c.from-size.result 4096 5 (omega (arith, within, c.requires.few_cells, c.loop-number.invariant)) small)

pub overflow_add-cell : goal.overflow_add-cell
overflow_add-cell g c =
    let within = column_cell c.args.r.now c.args.numbers.now c.args.place c.loop-number.number g.row.K c.domain.ensures.relation c.requires.place c.requires.rows c.told-numbers in
    let small : c.from-size.result ≤ 5 = omega (arith, c.from-size.ensures, c.size.ensures.size, c.size.ensures.within.few) in
    let value : c.from.result < c.args.r.now.domain = rw c.from.ensures (c.row.ensures.tuple.below c.args.place 0 (rw c.row.ensures.tuple.long c.requires.place)) in
    let few : c.args.r.now.domain ≤ 5 = c.domain.ensures.relation.domain_is.few in
    omega (arith, few, value, within, c.requires.few_cells, c.loop-number.invariant, mul-le c.loop-number.cell c.from-size.result 4096 5 (omega (arith, within, c.requires.few_cells, c.loop-number.invariant)) small)

pub loop-number-preserved : goal.loop-number-preserved
loop-number-preserved g c =
    let values = column (rows_at c.args.r.now c.args.numbers.now) c.args.place in
    let known : c.loop-number.number < length c.args.numbers.now = omega (arith, c.loop-number-test.true, c.told-numbers) in
    let size : c.from-size.result ≡ c.args.r.now.domain = c.from-size.ensures ∙ c.size.ensures.size ∙ c.domain.ensures.domain in
    let value : c.from.result ≡ get_or values c.loop-number.number 0 =
    c.from.ensures ∙ ap (λ row. get_or row c.args.place 0) c.row.ensures.row ∙ sym (column_at c.args.r.now c.args.numbers.now c.args.place c.loop-number.number known) in
    rw (cell_step c.args.r.now.domain values c.loop-number.number (rw (length-column c.args.r.now c.args.numbers.now c.args.place) known), value, size, c.loop-number.invariant) refl

pub returns : goal.returns
returns g c =
    let values = column (rows_at c.args.r.now c.args.numbers.now) c.args.place in
    let all : length values ≤ c.loop-number.number = omega (arith, length-column c.args.r.now c.args.numbers.now c.args.place, c.loop-number-test.false, c.told-numbers) in
    let within = column_cell c.args.r.now c.args.numbers.now c.args.place c.loop-number.number g.row.K c.domain.ensures.relation c.requires.place c.requires.rows c.told-numbers in
    record {
      cell = c.loop-number.invariant ∙ ap (cell_of c.args.r.now.domain) (take_all c.loop-number.number values all);
      below = rw c.loop-number.invariant within;
    }
