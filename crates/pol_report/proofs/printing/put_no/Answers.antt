use Rattle.std.proofs.Common.{[], ◌∷◌, refl, codes, decimal, length}
use Rattle.pol_base.specs.Names.{class_word}
use Rattle.pol_text.specs.Texts.{joined}
use Rattle.pol_report.specs.Texts.{instance_line, step_line}
use Rattle.pol_report.proofs.PrintLemmas.{cut_first, last_call}
use Rattle.pol_report.proofs.printing.put_no.Goals as goal

pub returns-in_err-put_no_line-clause-puts : goal.returns-in_err-put_no_line-clause-puts
returns-in_err-put_no_line-clause-puts g c =
    let front = rw c.len.ensures.steps at c.in_err-put_no_line.ensures.puts in
    cut_first c.from_residual.result _ _ (instance_line c.args.name.now (codes "no" ∷ class_word c.args.class ∷ decimal (length c.args.log.now) ∷ [])) (joined step_line c.args.log.now) _ c.from_residual.ensures.0 front refl

pub returns-clause-puts : goal.returns-clause-puts
returns-clause-puts g c =
    last_call c.put_steps.result _ _ _ (instance_line c.args.name.now (codes "no" ∷ class_word c.args.class ∷ decimal (length c.args.log.now) ∷ [])) (joined step_line c.args.log.now) _ (rw c.len.ensures.steps at c.in_ok-put_no_line.ensures.puts) c.put_steps.ensures.puts refl
