use Rattle.std.proofs.Common.{◌∙◌, ◌<◌, length, arith}
use Rattle.std.proofs.lemmas.Result.{MatchResult-from_err}
use Rattle.pol_nogood.specs.Logs.{no_step}
use Rattle.pol_text.proofs.TextLemmas.{joined-front, joined-appended}
use Rattle.pol_report.specs.Texts.{step_line}
use Rattle.pol_report.proofs.step_lines.put_steps.Goals as goal

-- a front of one more step
pub returns-in_err-put_step-clause-puts : goal.returns-in_err-put_step-clause-puts
returns-in_err-put_step-clause-puts g c =
    let inside : c.loop-s.s < length c.args.log.now = omega (arith, c.loop-s-test.true, c.len-s-end.ensures.steps) in
    let front = rw c.step.ensures.step at c.in_err-put_step.ensures.puts in
    MatchResult-from_err c.from_residual.result _ _ c.from_residual.ensures.0 (λ _. joined-front step_line c.args.log.now c.loop-s.s no_step _ _ _ inside c.loop-s.invariant.so_far front)

-- one more step
pub loop-s-preserved : goal.loop-s-preserved
loop-s-preserved g c =
    let inside : c.loop-s.s < length c.args.log.now = omega (arith, c.loop-s-test.true, c.len-s-end.ensures.steps) in
    let more = rw c.step.ensures.step at c.in_ok-put_step.ensures.puts in
    record {
      so_far = joined-appended step_line c.args.log.now c.loop-s.s no_step _ _ _ inside c.loop-s.invariant.so_far more;
      place = c.in_ok-put_step.ensures.place ∙ c.loop-s.invariant.place;
      sent = omega (arith, c.in_ok-put_step.ensures.sent, c.loop-s.invariant.sent);
      calm = c.in_ok-put_step.ensures.calm ∙ c.loop-s.invariant.calm;
    }
