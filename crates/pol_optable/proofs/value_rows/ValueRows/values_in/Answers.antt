use Rattle.pol_optable.proofs.ValueWordLemmas.{read_from, not_read_from, low_read_taken, low_read_left}
use Rattle.pol_optable.proofs.value_rows.ValueRows.values_in.Goals as goal
use Rattle.pol_optable.proofs.value_rows.ValueRows.values_in.Goals.{then-word-ne0, else-word-ne0}

pub loop-value-preserved : goal.loop-value-preserved
loop-value-preserved c v =
    let r = c.args.self.now in
    let place = c.args.place in
    let i = c.args.i in
    let word = c.args.word in
    let value = c.loop-value.value in
    elim c.if-word-ne0.branch [
      | then-word-ne0 w ↦ rw (w.found-is, w.value_mask-found.ensures.mask) (low_read_taken r place i word c.loop-value.found value v
          (read_from r place i word c.word.result value c.ranges.word.fits w.if-word-ne0.true c.word.ensures.rows)
          (c.loop-value.invariant v))
      | else-word-ne0 w ↦ rw w.found-is (low_read_left r place i word c.loop-value.found value v
          (not_read_from r place i word c.word.result value w.if-word-ne0.false c.word.ensures.rows)
          (c.loop-value.invariant v))
    ]
