use Rattle.std.proofs.Common.{◌++◌, [], ◌∷◌, refl, codes, decimal}
use Rattle.pol_base.specs.Names.{class_word}
use Rattle.pol_text.specs.Texts.{spaced_texts}
use Rattle.pol_report.proofs.PrintLemmas.{cut_first, line_ended}
use Rattle.pol_report.proofs.printing.put_no_line.Goals as goal

pub returns-in_err-put_counted-clause-puts : goal.returns-in_err-put_counted-clause-puts
returns-in_err-put_counted-clause-puts g c =
    cut_first c.from_residual.result _ _ (codes "instance" ++ spaced_texts (c.args.name.now ∷ codes "no" ∷ class_word c.args.class ∷ decimal c.args.steps ∷ [])) (codes "\n") _ c.from_residual.ensures.0 c.in_err-put_counted.ensures.puts refl

pub returns-clause-puts : goal.returns-clause-puts
returns-clause-puts g c =
    line_ended c.append.result _ _ _ (codes "instance" ++ spaced_texts (c.args.name.now ∷ codes "no" ∷ class_word c.args.class ∷ decimal c.args.steps ∷ [])) c.in_ok-put_counted.ensures.puts c.append.ensures.puts
