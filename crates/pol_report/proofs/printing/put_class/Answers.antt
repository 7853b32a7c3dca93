use Rattle.std.proofs.Common.{[], ◌∷◌, codes}
use Rattle.pol_text.proofs.TextLemmas.{puts_first}
use Rattle.pol_report.proofs.PrintLemmas.{line_token}
use Rattle.pol_text.specs.Texts.{spaced_texts}
use Rattle.pol_base.specs.Names.{class_word}
use Rattle.pol_report.proofs.printing.put_class.Goals as goal

pub returns-in_err-append-clause-puts : goal.returns-in_err-append-clause-puts
returns-in_err-append-clause-puts g c =
    puts_first c.from_residual.result _ _ (codes "class") (spaced_texts (class_word c.args.class ∷ [])) c.from_residual.ensures.0 c.in_err-append.ensures.puts

pub returns-clause-puts : goal.returns-clause-puts
returns-clause-puts g c =
    line_token c.put_token.result _ _ _ (codes "class") [] (class_word c.args.class) c.in_ok-append.ensures.puts (rw c.word.ensures.word at c.put_token.ensures.puts)
