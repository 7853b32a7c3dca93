use Rattle.std.proofs.Common.{ℕ, [], get_or}
use Rattle.std.specs.Prelude.{IsBitSet}
use Rattle.pol_csp.proofs.Wording.{row_added, row_left, refuted}
use Rattle.pol_csp.proofs.words.rows_with.Goals as goal
use Rattle.pol_csp.proofs.words.rows_with.Goals.{then-has_value, else-has_value}

pub loop-row-preserved : goal.loop-row-preserved
loop-row-preserved c =
    let P : ℕ → Type 0 = λ row. IsBitSet c.args.mask (get_or (get_or c.args.r.now.rows row []) c.args.place 0) in
    elim c.if-has_value.branch [
      | then-has_value w ↦ rw (w.word-is, w.row_bit-word.ensures.bit)
          (row_added P c.loop-row.word c.loop-row.row c.loop-row.invariant)
      | else-has_value w ↦ rw w.word-is (row_left P c.loop-row.word c.loop-row.row c.loop-row.invariant
          (λ has. refuted c.has_value.result w.if-has_value.false
          (c.has_value.ensures.has.1 (rw c.row.ensures.row has))))
    ]
