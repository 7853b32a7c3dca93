use Rattle.std.proofs.Common.{◌++◌, [], ◌∷◌, refl, codes, append_assoc}
use Rattle.pol_text.specs.Texts.{spaced_texts}
use Rattle.pol_report.proofs.PrintLemmas.{cut_off, line_token, line_one_more}
use Rattle.pol_text.proofs.TextLemmas.{puts_first}
use Rattle.pol_report.proofs.printing.put_begun.Goals as goal

pub returns-in_err-put_token-clause-puts : goal.returns-in_err-put_token-clause-puts
returns-in_err-put_token-clause-puts g c =
    cut_off c.from_residual-in_err-put_token.result _ _ _ (codes "instance") (codes " " ++ c.args.name.now) (spaced_texts (c.args.word.now ∷ [])) _ c.from_residual-in_err-put_token.ensures.0 c.in_ok-append.ensures.puts c.in_err-put_token.ensures.puts (simp append_assoc refl)

pub returns-in_err-append-clause-puts : goal.returns-in_err-append-clause-puts
returns-in_err-append-clause-puts g c =
    puts_first c.from_residual.result _ _ (codes "instance") (spaced_texts (c.args.name.now ∷ c.args.word.now ∷ [])) c.from_residual.ensures.0 c.in_err-append.ensures.puts

pub returns-clause-puts : goal.returns-clause-puts
returns-clause-puts g c =
    line_token c.put_token-2.result _ _ _ (codes "instance") (c.args.name.now ∷ []) c.args.word.now (line_one_more _ _ _ (codes "instance") [] c.args.name.now c.in_ok-append.ensures.puts c.in_ok-put_token.ensures.puts) c.put_token-2.ensures.puts
