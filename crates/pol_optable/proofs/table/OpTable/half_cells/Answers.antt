use Rattle.std.proofs.Common.{◌≡◌, ◌<◌, ◌≤◌, ◌-◌, length, arith}
use Rattle.pol_optable.proofs.HalfLemmas.{FillsHalf-last, last_fits, half_fits, half_longer}
use Rattle.pol_optable.proofs.table.OpTable.half_cells.Goals as goal

pub last_cells-requires : goal.last_cells-requires
last_cells-requires g c =
    let place : 1 ≤ length c.args.firsts.now = omega (arith, c.if-place-eq0.false) in
    let fits = last_fits g.row.K c.args.self.now c.args.firsts.now c.args.weight c.domain.ensures.table place c.requires.few in
    (omega arith, (c.requires.within (length c.args.firsts.now - 1) (omega (arith, place)), (c.requires.some, fits)))

pub overflow_mul-place_weight : goal.overflow_mul-place_weight
overflow_mul-place_weight g c =
    let size : c.from-size.result ≡ c.args.self.now.domain = cc in
    let place : 1 ≤ length c.args.firsts.now = omega (arith, c.if-place-eq0.false) in
    let fits = last_fits g.row.K c.args.self.now c.args.firsts.now c.args.weight c.domain.ensures.table place c.requires.few in
    rw size (omega (arith, fits))

pub loop-place-init : goal.loop-place-init
loop-place-init g c =
    let size : c.from-size.result ≡ c.args.self.now.domain = cc in
    let place : 1 ≤ length c.args.firsts.now = omega (arith, c.if-place-eq0.false) in
    record {
      within = omega arith;
      fills = rw size (FillsHalf-last c.args.self.now c.args.firsts.now c.args.weight c.last_cells.new.cells c.requires.some place
          c.last_cells.ensures.long c.last_cells.ensures.cells c.last_cells.ensures.small);
    }

pub lengthen-requires : goal.lengthen-requires
lengthen-requires g c =
    let fits = half_fits g.row.K c.args.self.now c.args.firsts.now c.args.weight c.loop-place.place c.loop-place.count c.loop-place.place_weight c.loop-place.cells
    c.domain.ensures.table c.requires.short c.requires.few (omega (arith, c.loop-place-test.true)) c.loop-place.invariant.within c.loop-place.invariant.fills in
    let inside : c.loop-place.place - 1 < length c.args.firsts.now = omega (arith, c.loop-place-test.true, c.loop-place.invariant.within) in
    (omega arith, (c.requires.within (c.loop-place.place - 1) inside, (fits.some, (fits.few_lists, (fits.few, c.loop-place.invariant.fills.small)))))

pub overflow_mul-count : goal.overflow_mul-count
overflow_mul-count g c =
    let size : c.from-size.result ≡ c.args.self.now.domain = cc in
    let fits = half_fits g.row.K c.args.self.now c.args.firsts.now c.args.weight c.loop-place.place c.loop-place.count c.loop-place.place_weight c.loop-place.cells
    c.domain.ensures.table c.requires.short c.requires.few (omega (arith, c.loop-place-test.true)) c.loop-place.invariant.within c.loop-place.invariant.fills in
    rw size (omega (arith, fits.few_lists))

pub overflow_mul-place_weight-in-loop-place : goal.overflow_mul-place_weight-in-loop-place
overflow_mul-place_weight-in-loop-place g c =
    let size : c.from-size.result ≡ c.args.self.now.domain = cc in
    let fits = half_fits g.row.K c.args.self.now c.args.firsts.now c.args.weight c.loop-place.place c.loop-place.count c.loop-place.place_weight c.loop-place.cells
    c.domain.ensures.table c.requires.short c.requires.few (omega (arith, c.loop-place-test.true)) c.loop-place.invariant.within c.loop-place.invariant.fills in
    rw size (omega (arith, fits.few))

pub loop-place-preserved : goal.loop-place-preserved
loop-place-preserved g c =
    let size : c.from-size.result ≡ c.args.self.now.domain = cc in
    record {
      within = omega (arith, c.loop-place.invariant.within);
      fills = rw size
          (half_longer c.args.self.now c.args.firsts.now c.args.weight c.loop-place.place c.loop-place.count c.loop-place.place_weight c.loop-place.cells c.lengthen.new.cells
          (omega (arith, c.loop-place-test.true)) c.loop-place.invariant.within c.loop-place.invariant.fills
          (omega (arith, c.lengthen.array_long)) c.lengthen.ensures.cells c.lengthen.ensures.small);
    }
