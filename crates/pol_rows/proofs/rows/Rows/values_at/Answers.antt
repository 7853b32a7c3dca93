use Rattle.std.proofs.Common.{arith, refl}
use Rattle.std.proofs.lemmas.List.{take_more}
use Rattle.pol_rows.proofs.RunLemmas.{values_more}
use Rattle.pol_rows.proofs.rows.Rows.values_at.Goals as goal

pub loop-number-preserved : goal.loop-number-preserved
loop-number-preserved c =
    let longer = take_more c.args.numbers.now c.loop-number.number-index 0 (omega (arith, c.loop-number-test.true)) in
    rw (longer, c.value_mask-values.ensures.mask, c.row.ensures.row) (values_more _ _ _ _ _ _ c.loop-number.invariant refl)
