use Rattle.std.proofs.Common.{◌++◌, refl, codes}
use Rattle.pol_text.specs.Texts.{spaced_texts}
use Rattle.pol_report.proofs.PrintLemmas.{cut_first}
use Rattle.pol_checker.specs.VerdictTexts.{cause_tokens}
use Rattle.pol_checker.proofs.texts.put_rejected.Goals as goal

pub returns-in_err-put_token : goal.returns-in_err-put_token
returns-in_err-put_token c =
    record { puts = cut_first c.from_residual.result _ _ (codes " " ++ codes "rejected") (spaced_texts (cause_tokens c.args.cause.now)) _ c.from_residual.ensures.0 c.in_err-put_token.ensures.puts refl }
