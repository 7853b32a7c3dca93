use Rattle.std.proofs.Common.{◌≡◌, ◌∙◌, ap, take, drop, ◌/◌, ◌^◌, ◌<◌, ◌≤◌, length, arith}
use Rattle.std.proofs.lemmas.List.{take_rest}
use Rattle.pol_base.specs.Tuples.{cell_of}
use Rattle.pol_optable.proofs.RowSetLemmas.{relation_cells, MarksSome-none, MarksSome-more, HalvesSome-none, HalvesSome-more}
use Rattle.pol_optable.proofs.row_set.mark_rows.Goals as goal

pub loop-i-init : goal.loop-i-init
loop-i-init c = record {
  marks = MarksSome-none c.args.relation.now c.args.marks.now c.args.fronts.now c.args.backs.now c.requires.room;
  halves = HalvesSome-none c.args.relation.now c.args.marks.now c.args.fronts.now c.args.backs.now c.requires.room;
}

pub cell_of-requires-clause-few : goal.cell_of-requires-clause-few
cell_of-requires-clause-few c =
    rw (c.domain-d.ensures.domain, c.row-row.ensures.tuple.long)
    (relation_cells c.args.relation.now c.domain-d.ensures.relation)

pub bounds-marks-cell_of : goal.bounds-marks-cell_of
bounds-marks-cell_of c =
    let counted : c.domain-d.result ^ length c.row-row.result.now ≤ length c.loop-i.marks =
    rw (c.domain-d.ensures.domain, c.row-row.ensures.tuple.long) c.loop-i.invariant.marks.counted in
    omega (arith, counted, c.cell_of.ensures.within)

pub loop-i-preserved : goal.loop-i-preserved
loop-i-preserved c =
    let inside : c.loop-i.i < length c.args.relation.now.rows = omega (arith, c.len-i-end.ensures.rows) in
    let front : c.half_number.result ≡ cell_of c.args.relation.now.domain (take (c.args.relation.now.arity / 2) c.row-row.result.now) =
    rw (← c.arity.ensures.arity, ← c.domain-d.ensures.domain) c.half_number.ensures.number in
    let back : c.half_number-in-loop-i.result ≡ cell_of c.args.relation.now.domain (drop (c.args.relation.now.arity / 2) c.row-row.result.now) =
    rw (← c.arity.ensures.arity, ← c.domain-d.ensures.domain)
    (c.half_number-in-loop-i.ensures.number ∙ ap (cell_of c.domain-d.result) (take_rest c.row-row.result.now (c.arity.result / 2))) in
    record {
      marks = rw (c.cell_of.ensures.cell, c.domain-d.ensures.domain)
          (MarksSome-more
          c.args.relation.now c.loop-i.i c.row-row.result.now c.loop-i.marks
          inside c.row-row.ensures.row c.row-row.ensures.tuple c.loop-i.invariant.marks);
      halves = HalvesSome-more c.args.relation.now c.loop-i.i c.half_number.result c.half_number-in-loop-i.result c.row-row.result.now c.loop-i.fronts c.loop-i.backs
          inside c.row-row.ensures.row front back c.loop-i.invariant.halves;
    }
