use Rattle.std.proofs.Common.{◌^◌, ◌≤◌, length, arith}
use Rattle.pol_optable.proofs.HalfLemmas.{few_lists}
use Rattle.pol_optable.proofs.row_set.half_number.Goals as goal

pub cell_of-requires-clause-few : goal.cell_of-requires-clause-few
cell_of-requires-clause-few c =
    let few : c.args.d ^ length c.args.half.now ≤ 125 = few_lists c.args.d (length c.args.half.now) c.size-size.ensures.within.few c.requires.short in
    omega (arith, few)

pub overflow_cast-result : goal.overflow_cast-result
overflow_cast-result c =
    let few : c.args.d ^ length c.args.half.now ≤ 125 = few_lists c.args.d (length c.args.half.now) c.size-size.ensures.within.few c.requires.short in
    omega (arith, few, c.cell_of.ensures.within)
