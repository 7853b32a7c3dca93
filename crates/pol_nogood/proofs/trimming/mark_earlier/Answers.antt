use Rattle.std.proofs.Common.{get_or, take}
use Rattle.std.proofs.lemmas.List.{take_more}
use Rattle.pol_nogood.proofs.MarkLemmas.{MarksToo-set, MarksToo-wild}
use Rattle.pol_nogood.proofs.trimming.mark_earlier.Goals as goal
use Rattle.pol_nogood.proofs.trimming.mark_earlier.Goals.{then-place-marks, else-place-marks}

-- one more reference
pub loop-reference-preserved : goal.loop-reference-preserved
loop-reference-preserved c =
    let done = take c.loop-reference.reference-index c.args.references.now in
    let r = get_or c.args.references.now c.loop-reference.reference-index 0 in
    rw (take_more c.args.references.now c.loop-reference.reference-index 0 c.loop-reference-test.true)
    (elim c.if-place-marks.branch [
      | then-place-marks w ↦ rw w.marks-is (MarksToo-set done c.args.marks.now c.loop-reference.marks r w.if-place-marks.true c.loop-reference.invariant)
      | else-place-marks w ↦ rw w.marks-is (MarksToo-wild done c.args.marks.now c.loop-reference.marks r w.if-place-marks.false c.loop-reference.invariant)
    ])
