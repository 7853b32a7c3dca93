use Rattle.std.proofs.Common.{◌+◌, ◌*◌, ◌/◌, ◌%◌, ◌<◌, get_or, arith}
use Rattle.std.specs.Prelude.{IsBitSet}
use Rattle.pol_optable.proofs.ValueWordLemmas.{one_more}
use Rattle.pol_optable.proofs.MarkLemmas.{marked_more}
use Rattle.pol_optable.proofs.value_rows.mark_row.Goals as goal

pub loop-place-preserved : goal.loop-place-preserved
loop-place-preserved c p v k inside small =
    let row = c.args.row.now in
    let i = c.args.i in
    let words = c.loop-place.words in
    let place = c.loop-place.place in
    let here : place < 6 = omega (arith, c.requires.short) in
    let value : get_or row place 0 < 5 = c.requires.tuple.below place 0 c.loop-place-test.true in
    rw c.row_bit.ensures.bit (marked_more
    (IsBitSet (get_or c.args.words.now (k / 128 * 30 + p * 5 + v) 0) (k % 128))
    (IsBitSet (get_or words (k / 128 * 30 + p * 5 + v) 0) (k % 128)) _ row i k p v place
    (one_more words i place (get_or row place 0) (omega (arith, c.requires.room, c.loop-place.auto.words)) here value k p v
    (omega (arith, inside, c.requires.short)) small)
    (c.loop-place.invariant p v k inside small))
