use Rattle.std.proofs.Common.{◌∙◌, sym, subst, ap, arith, ◌≡◌, ◌+◌, ◌-◌}
use Rattle.std.proofs.lemmas.Bool.{true≢false}
use Rattle.pol_nogood.specs.Logs.{StepView}
use Rattle.pol_nogood.proofs.MarkLemmas.{AreMarksFrom, AreMarksFrom-last, AreMarksFrom-none, AreMarksFrom-marked, AreMarksFrom-unmarked, AreMarks-from_first}
use Rattle.pol_nogood.proofs.trimming.mark_needed.Goals as goal
use Rattle.pol_nogood.proofs.trimming.mark_needed.Goals.{in-Some, in_default}

pub loop-s-init : goal.loop-s-init
loop-s-init c = rw c.len-s.ensures.steps (elim c.match-last_mut.branch [
  | in-Some w ↦ rw w.marks-is (AreMarksFrom-last c.args.log.now c.args.marks.now c.requires.as_many c.requires.unmarked (grind (arith, w.in-Some.ensures.item.0)))
  | in_default w ↦ rw w.marks-is (AreMarksFrom-none c.args.log.now c.args.marks.now c.requires.as_many (grind (arith, w.in_default.ensures.item.0)))
])

pub loop-s-preserved-then-marks-s : goal.loop-s-preserved-then-marks-s
loop-s-preserved-then-marks-s c =
    let next : c.loop-s.s ≡ (c.loop-s.s - 1) + 1 = omega (arith, c.loop-s-test.true) in
    let references = c.references.ensures.references ∙ ap (λ (s : StepView). s.references) c.step.ensures.step in
    let too = rw references at c.mark_earlier.ensures.marks in
    AreMarksFrom-marked c.args.log.now (c.loop-s.s - 1) c.loop-s.marks c.mark_earlier.new.marks c.if-marks-s.true too (subst (λ count. AreMarksFrom c.args.log.now count c.loop-s.marks) next c.loop-s.invariant)

pub loop-s-preserved : goal.loop-s-preserved
loop-s-preserved c =
    let next : c.loop-s.s ≡ (c.loop-s.s - 1) + 1 = omega (arith, c.loop-s-test.true) in
    AreMarksFrom-unmarked c.args.log.now (c.loop-s.s - 1) c.loop-s.marks (λ is. true≢false (sym is ∙ c.if-marks-s.false)) (subst (λ count. AreMarksFrom c.args.log.now count c.loop-s.marks) next c.loop-s.invariant)

pub returns : goal.returns
returns c =
    let done : c.loop-s.s ≡ 0 = omega (arith, c.loop-s-test.false) in
    record { marks = AreMarks-from_first c.args.log.now c.loop-s.marks (subst (λ count. AreMarksFrom c.args.log.now count c.loop-s.marks) done c.loop-s.invariant) }
