use Rattle.std.proofs.Common.{◌<◌, ◌^◌, ◌∙◌, length, length-set, arith}
use Rattle.pol_optable.specs.Breaks.{rows_at}
use Rattle.pol_indicator.proofs.ColumnLemmas.{scope_more, scope_below}
use Rattle.pol_indicator.proofs.scope.scope_at.Goals as goal

pub loop-place-preserved : goal.loop-place-preserved
loop-place-preserved g c =
    let rows = rows_at c.args.r.now c.args.numbers.now in
    let room : c.loop-place.place < length c.loop-place.scope = omega (arith, c.loop-place.invariant.long, c.loop-place-test.true, c.arity-place-end.ensures.relation.few_places, c.arity-place-end.ensures.arity) in
    record {
      long = length-set c.loop-place.scope c.loop-place.place _ ∙ c.loop-place.invariant.long;
      so_far = scope_more c.args.r.now.domain rows c.loop-place.place c.loop-place.scope c.cell_at.result room c.loop-place.invariant.so_far c.cell_at.ensures.cell;
      below = scope_below (c.args.r.now.domain ^ g.row.K) c.loop-place.place c.loop-place.scope c.cell_at.result room c.loop-place.invariant.below c.cell_at.ensures.below;
    }
