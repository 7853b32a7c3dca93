use Rattle.std.proofs.Common.{◌≡◌, ◌∙◌, [], ◌∷◌, ◌++◌, length, ap, arith, subst}
use Rattle.pol_nogood.specs.Logs.{step_at}
use Rattle.pol_nogood.specs.Steps.{step_named}
use Rattle.pol_nogood.specs.Marks.{copy_by}
use Rattle.pol_nogood.proofs.CopyLemmas.{IsCopying, few_marked, length_copying, IsCopying-marked, IsCopying-unmarked, IsTrimmed-from_copying}
use Rattle.pol_nogood.proofs.trimming.copy_marked.Goals as goal
use Rattle.pol_nogood.proofs.trimming.copy_marked.Goals.{then-marks-s+in_ok-copied+in_ok-push, else-marks-s}

-- there are fewer copies than steps
pub push-requires : goal.push-requires
push-requires c =
    let few = few_marked c.args.marks.now c.loop-s.s in
    let same = length_copying c.args.log.now c.args.marks.now c.loop-s.s c.loop-s.part c.loop-s.numbers c.loop-s.invariant in
    record { room = omega (arith, few, same, c.loop-s-test.true, c.len-s-end.ensures.few) }

-- one more step
pub loop-s-preserved : goal.loop-s-preserved
loop-s-preserved c =
    let log = c.args.log.now in
    let numbers = c.in_ok-push-2.ensures.ok ∙ ap (λ number. c.loop-s.numbers ++ number ∷ []) c.len-number.ensures.steps in
    rw numbers
    (elim c.if-marks-s.branch [
      | then-marks-s+in_ok-copied+in_ok-push w ↦
          let copy : step_named w.in_ok-copied.field-0 ≡ copy_by c.loop-s.numbers (step_at log c.loop-s.s) = w.in_ok-copied.ensures.copy ∙ (ap (λ before. copy_by before (step_named w.step.result.now)) w.as_slice.ensures.items ∙ ap (copy_by c.loop-s.numbers) w.step.ensures.step) in
          rw (w.part-is, w.in_ok-push.ensures.ok, copy)
          (IsCopying-marked log c.args.marks.now c.loop-s.s c.loop-s.part c.loop-s.numbers w.if-marks-s.true c.loop-s.invariant)
      | else-marks-s w ↦ rw w.part-is (IsCopying-unmarked log c.args.marks.now c.loop-s.s c.loop-s.part c.loop-s.numbers w.if-marks-s.false c.loop-s.invariant)
    ])

-- all steps are passed
pub returns : goal.returns
returns c =
    let all : c.loop-s.s ≡ length c.args.log.now = omega (arith, c.loop-s-test.false, c.loop-s.auto.s-end, c.len-s-end.ensures.steps) in
    record {
      part = IsTrimmed-from_copying c.args.log.now c.args.marks.now c.requires.marks c.loop-s.part c.loop-s.numbers (subst (λ s. IsCopying c.args.log.now c.args.marks.now s c.loop-s.part c.loop-s.numbers) all c.loop-s.invariant);
    }
