use Rattle.std.proofs.Common.{◌<◌, ◌≤◌, length, arith, subst, refl, All}
use Rattle.std.proofs.lemmas.List.{take_all}
use Rattle.std.proofs.lemmas.List.Elements.{All-more}
use Rattle.pol_nogood.specs.Logs.{no_step}
use Rattle.pol_report.specs.Printable.{IsPrintableStep}
use Rattle.pol_report.proofs.limits.is_printable_log.Goals as goal

-- one more step
pub loop-s-preserved : goal.loop-s-preserved
loop-s-preserved c =
    let inside : c.loop-s.s < length c.args.log.now = omega (arith, c.loop-s-test.true, c.len-s-end.ensures.steps) in
    let is = rw c.step.ensures.step at (c.if-not-is_printable_step.ensures.printable.0 refl) in
    All-more IsPrintableStep c.args.log.now c.loop-s.s no_step inside c.loop-s.invariant is

-- all steps are passed
pub returns : goal.returns
returns c =
    let few : length c.args.log.now ≤ 10037608 = omega (arith, c.if-len-gt-MOST_STEPS.false, c.len.ensures.steps) in
    let all : length c.args.log.now ≤ c.loop-s.s = omega (arith, c.loop-s-test.false, c.len-s-end.ensures.steps) in
    let each = subst (All IsPrintableStep) (take_all c.loop-s.s c.args.log.now all) c.loop-s.invariant in
    record { printable = ((λ _. record { few = few; each = each }), λ _. refl) }
