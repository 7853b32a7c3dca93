use Rattle.std.proofs.Common.{arith, take, get_or}
use Rattle.std.proofs.lemmas.List.{take_more}
use Rattle.std.proofs.lemmas.Nat.{mul-le}
use Rattle.pol_base.proofs.CellLemmas.{cell_of-take, cell_of-push}
use Rattle.pol_base.proofs.numbering.cell_of.Goals as goal

pub overflow_mul-cell : goal.overflow_mul-cell
overflow_mul-cell c =
    let within = cell_of-take c.args.d c.loop-digit.digit-index c.args.digits.now c.size.ensures.within.some c.requires.tuple.below in
    omega (arith, mul-le c.loop-digit.cell c.from-size.result 15625 5 (omega arith) (omega arith))

pub overflow_add-cell : goal.overflow_add-cell
overflow_add-cell c =
    let within = cell_of-take c.args.d c.loop-digit.digit-index c.args.digits.now c.size.ensures.within.some c.requires.tuple.below in
    omega (arith, mul-le c.loop-digit.cell c.from-size.result 15625 5 (omega arith) (omega arith))

pub loop-digit-preserved : goal.loop-digit-preserved
loop-digit-preserved c =
    let longer = take_more c.args.digits.now c.loop-digit.digit-index 0 c.loop-digit-test.true in
    let pushed = cell_of-push c.args.d (take c.loop-digit.digit-index c.args.digits.now) (get_or c.args.digits.now c.loop-digit.digit-index 0) in
    rw (longer, pushed) (cc)

pub returns-clause-within : goal.returns-clause-within
returns-clause-within c =
    let within = cell_of-take c.args.d c.loop-digit.digit-index c.args.digits.now c.size.ensures.within.some c.requires.tuple.below in
    omega arith
