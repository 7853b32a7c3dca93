use Rattle.std.proofs.Common.{◌≡◌, [], ◌*◌, ◌^◌, ◌≤◌, length, arith}
use Rattle.pol_relation.specs.Relations.{IsRelation}
use Rattle.pol_optable.specs.Tables.{IsOpTable}
use Rattle.pol_optable.proofs.HalfLemmas.{IsHalf, IsHalf-back, IsHalf-front, HasHalves, HasHalves-from, back_of, front_of, tell_images, are_images_tuples}
use Rattle.pol_optable.proofs.table.OpTable.image_cells.Goals as goal

pub half_cells-weight-requires : goal.half_cells-weight-requires
half_cells-weight-requires g c =
    let table : IsOpTable g.row.K c.args.self.now = c.domain-table.ensures.table in
    let is : IsRelation c.args.relation.now = c.arity-arity.ensures.relation in
    let firsts = c.first_cells-firsts.result in
    let short : c.args.relation.now.arity ≤ length firsts = omega (arith, is.few_places, c.first_cells-firsts.ensures.long) in
    let half : IsHalf g.row.K c.args.self.now (back_of c.arity-arity.result firsts) 1 =
    rw c.arity-arity.ensures.arity
    (IsHalf-back g.row.K c.args.self.now firsts c.args.relation.now.arity table is.few_places short c.first_cells-firsts.ensures.within) in
    (omega arith, (half.short, (half.within, (half.some, half.few))))

pub half_cells-requires : goal.half_cells-requires
half_cells-requires g c =
    let table : IsOpTable g.row.K c.args.self.now = c.domain-table.ensures.table in
    let is : IsRelation c.args.relation.now = c.arity-arity.ensures.relation in
    let arity = c.arity-arity.ensures.arity in
    let firsts = c.first_cells-firsts.result in
    let n = c.args.relation.now.arity in
    let short : n ≤ length firsts = omega (arith, is.few_places, c.first_cells-firsts.ensures.long) in
    let weight : c.half_cells-weight.result ≡ 1 * c.args.self.now.domain ^ length (back_of n firsts) = rw arity at c.half_cells-weight.ensures.weight in
    let half : IsHalf g.row.K c.args.self.now (front_of c.arity-arity.result firsts) c.half_cells-weight.result =
    rw arity
    (IsHalf-front g.row.K c.args.self.now firsts n c.half_cells-weight.result table is.few_places short c.first_cells-firsts.ensures.within weight) in
    (omega arith, (half.short, (half.within, (half.some, half.few))))

pub returns-clause-images : goal.returns-clause-images
returns-clause-images g c =
    let is : IsRelation c.args.relation.now = c.arity-arity.ensures.relation in
    let arity = c.arity-arity.ensures.arity in
    let firsts = c.first_cells-firsts.result in
    let n = c.args.relation.now.arity in
    let short : n ≤ length firsts = omega (arith, is.few_places, c.first_cells-firsts.ensures.long) in
    let weight : c.half_cells-weight.result ≡ 1 * c.args.self.now.domain ^ length (back_of n firsts) = rw arity at c.half_cells-weight.ensures.weight in
    let halves : HasHalves c.args.self.now firsts n c.half_cells.new.cells c.half_cells-weight.new.cells =
    HasHalves-from c.args.self.now firsts n c.half_cells-weight.result c.half_cells.new.cells c.half_cells-weight.new.cells
    short weight (rw arity at c.half_cells.ensures.cells) (rw arity at c.half_cells-weight.ensures.cells) in
    tell_images c.args.self.now c.args.relation.now c.args.front.now firsts c.half_cells.new.cells c.half_cells-weight.new.cells
    c.requires.domain (λ last known. is.tuples last [] known) short c.first_cells-firsts.ensures.cells halves

pub returns-clause-tuples : goal.returns-clause-tuples
returns-clause-tuples g c =
    let is : IsRelation c.args.relation.now = c.arity-arity.ensures.relation in
    let firsts = c.first_cells-firsts.result in
    let short : c.args.relation.now.arity ≤ length firsts = omega (arith, is.few_places, c.first_cells-firsts.ensures.long) in
    are_images_tuples g.row.K c.args.self.now c.args.relation.now c.args.front.now firsts c.domain-table.ensures.table
    c.requires.domain (λ last known. is.tuples last [] known) short c.first_cells-firsts.ensures.within c.first_cells-firsts.ensures.cells
