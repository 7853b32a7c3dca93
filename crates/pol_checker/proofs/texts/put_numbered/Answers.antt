use Rattle.std.proofs.Common.{◌++◌, [], ◌∷◌, refl, codes, decimal}
use Rattle.pol_text.specs.Texts.{spaced_texts}
use Rattle.pol_report.proofs.PrintLemmas.{cut_first}
use Rattle.pol_checker.proofs.texts.put_numbered.Goals as goal

pub returns-in_err-put_token : goal.returns-in_err-put_token
returns-in_err-put_token c =
    record { puts = cut_first c.from_residual.result _ _ (codes " " ++ c.args.word.now) (spaced_texts (decimal c.args.number ∷ [])) _ c.from_residual.ensures.0 c.in_err-put_token.ensures.puts refl }
