use Rattle.std.proofs.Common.{◌%◌}
use Rattle.pol_optable.proofs.ValueWordLemmas.{low_taken, low_left, refuted}
use Rattle.pol_optable.proofs.value_rows.ValueRows.word_within.Goals as goal
use Rattle.pol_optable.proofs.value_rows.ValueRows.word_within.Goals.{then-has_value, else-has_value}

pub loop-value-preserved : goal.loop-value-preserved
loop-value-preserved c row same =
    let r = c.args.self.now in
    let place = c.args.place in
    let mask = c.args.mask in
    let value = c.loop-value.value in
    elim c.if-has_value.branch [
      | then-has_value w ↦ rw w.word-is (low_taken r place mask row c.loop-value.word w.word-word.result (row % 128) value
          (c.has_value.ensures.has.0 w.if-has_value.true)
          (c.loop-value.invariant row same) (w.word-word.ensures.rows row same))
      | else-has_value w ↦ rw w.word-is (low_left r place mask row c.loop-value.word (row % 128) value
          (λ set. refuted c.has_value.result w.if-has_value.false (c.has_value.ensures.has.1 set))
          (c.loop-value.invariant row same))
    ]
