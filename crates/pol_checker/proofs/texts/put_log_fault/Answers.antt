use Rattle.std.proofs.Common.{◌++◌, [], ◌∷◌, sym, codes, decimal}
use Rattle.pol_text.specs.Texts.{spaced_texts}
use Rattle.pol_text.proofs.TextLemmas.{joined-append}
use Rattle.pol_report.proofs.PrintLemmas.{cut_first}
use Rattle.pol_checker.specs.VerdictTexts.{why_word}
use Rattle.pol_checker.proofs.texts.put_log_fault.Goals as goal

pub returns-in_err-put_numbered : goal.returns-in_err-put_numbered
returns-in_err-put_numbered c =
    let same = sym (joined-append (λ text. codes " " ++ text) (codes "log" ∷ decimal c.args.fault.step ∷ []) (why_word c.args.fault.why ∷ [])) in
    record { puts = cut_first c.from_residual.result _ _ (spaced_texts (codes "log" ∷ decimal c.args.fault.step ∷ [])) (spaced_texts (why_word c.args.fault.why ∷ [])) _ c.from_residual.ensures.0 c.in_err-put_numbered.ensures.puts same }
