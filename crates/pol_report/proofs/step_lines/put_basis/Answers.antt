use Rattle.std.proofs.Common.{[], ◌∷◌, ◌++◌, ap, codes, decimal}
use Rattle.pol_text.proofs.TextLemmas.{puts_first}
use Rattle.pol_report.proofs.PrintLemmas.{last_call, one_token}
use Rattle.pol_text.specs.Texts.{spaced_texts}
use Rattle.pol_report.proofs.step_lines.put_basis.Goals as goal

pub returns-in_err-append-clause-puts : goal.returns-in_err-append-clause-puts
returns-in_err-append-clause-puts g c =
    puts_first c.from_residual.result _ _ c.args.letter.now (spaced_texts (decimal c.args.number ∷ [])) c.from_residual.ensures.0 c.in_err-append.ensures.puts

pub returns-clause-puts : goal.returns-clause-puts
returns-clause-puts g c =
    last_call c.put_spaced.result _ _ _ c.args.letter.now (codes " " ++ decimal c.args.number) _ c.in_ok-append.ensures.puts (rw c.from.ensures at c.put_spaced.ensures.puts) (ap (λ text. c.args.letter.now ++ text) (one_token (decimal c.args.number)))
