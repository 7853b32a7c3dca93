use Rattle.std.proofs.Common.{◌++◌, [], ◌∷◌, refl, codes, decimal, ap}
use Rattle.pol_text.specs.Texts.{spaced_texts}
use Rattle.pol_report.proofs.PrintLemmas.{cut_first, last_call, one_token}
use Rattle.pol_report.proofs.step_lines.put_pair.Goals as goal

pub returns-in_err-put_spaced-clause-puts : goal.returns-in_err-put_spaced-clause-puts
returns-in_err-put_spaced-clause-puts g c =
    let front = rw c.from.ensures at c.in_err-put_spaced.ensures.puts in
    cut_first c.from_residual.result _ _ (codes " " ++ decimal c.args.variable) (spaced_texts (decimal c.args.value ∷ [])) _ c.from_residual.ensures.0 front refl

pub returns-clause-puts : goal.returns-clause-puts
returns-clause-puts g c =
    last_call c.put_spaced-2.result _ _ _ (codes " " ++ decimal c.args.variable) (codes " " ++ decimal c.args.value) _ (rw c.from.ensures at c.in_ok-put_spaced.ensures.puts) (rw c.from-2.ensures at c.put_spaced-2.ensures.puts) (ap (λ text. (codes " " ++ decimal c.args.variable) ++ text) (one_token (decimal c.args.value)))
