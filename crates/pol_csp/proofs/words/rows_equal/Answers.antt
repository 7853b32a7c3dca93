use Rattle.std.proofs.Common.{ℕ, ◌≡◌, [], get_or}
use Rattle.pol_csp.proofs.Wording.{row_added, row_left, refuted}
use Rattle.pol_csp.proofs.words.rows_equal.Goals as goal
use Rattle.pol_csp.proofs.words.rows_equal.Goals.{then-reads_equal, else-reads_equal}

pub loop-row-preserved : goal.loop-row-preserved
loop-row-preserved c =
    let P : ℕ → Type 0 = λ row. get_or (get_or c.args.r.now.rows row []) c.args.first 0 ≡ get_or
    (get_or c.args.r.now.rows row []) c.args.second 0 in
    elim c.if-reads_equal.branch [
      | then-reads_equal w ↦ rw (w.word-is, w.row_bit-word.ensures.bit)
          (row_added P c.loop-row.word c.loop-row.row c.loop-row.invariant)
      | else-reads_equal w ↦ rw w.word-is (row_left P c.loop-row.word c.loop-row.row c.loop-row.invariant
          (λ same. refuted c.reads_equal.result w.if-reads_equal.false
          (c.reads_equal.ensures.equal (rw c.row.ensures.row same))))
    ]
