use Rattle.std.proofs.Common.{◌∷◌, [], length-append, sym, ◌∙◌, arith}
use Rattle.pol_nogood.specs.Steps.{step_named}
use Rattle.pol_report.specs.Certificates.{step_from}
use Rattle.pol_report.specs.Grammar.{line_from}
use Rattle.pol_report.proofs.CountLemmas.{counted-next}
use Rattle.pol_report.proofs.further_lines.take_steps.Goals as goal

pub loop-preserved : goal.loop-preserved
loop-preserved c =
    let step = step_named c.in_ok-step.step in
    let before = c.loop.invariant.read in
    rw c.in_ok-push.ensures.ok
    (record {
      read = omega (arith, length-append c.loop.log (step ∷ []));
      same = sym (counted-next (line_from c.args.text.now step_from) c.args.count c.loop.counter c.loop.log c.loop.lines c.take_step.new.lines step (omega arith) c.in_ok-step.ensures.step) ∙ c.loop.invariant.same;
    })
