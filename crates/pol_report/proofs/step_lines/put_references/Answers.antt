use Rattle.std.proofs.Common.{◌++◌, length, map, subst, refl, codes, decimal}
use Rattle.pol_text.specs.Texts.{PutsIn, spaced_texts}
use Rattle.pol_text.proofs.PrintedLines.{spaced-texts}
use Rattle.pol_report.proofs.PrintLemmas.{cut_first, last_call}
use Rattle.pol_report.proofs.step_lines.put_references.Goals as goal

pub returns-in_err-put_spaced-clause-puts : goal.returns-in_err-put_spaced-clause-puts
returns-in_err-put_spaced-clause-puts g c =
    cut_first c.from_residual.result _ _ (codes " " ++ decimal (length c.args.references.now)) (spaced_texts (map decimal c.args.references.now)) _ c.from_residual.ensures.0 c.in_err-put_spaced.ensures.puts refl

pub returns-clause-puts : goal.returns-clause-puts
returns-clause-puts g c =
    let numbers = subst (PutsIn c.put_numbers.result (g.T.Text.bytes c.put_spaced.new.out) (g.T.Text.bytes c.put_numbers.new.out)) (spaced-texts c.args.references.now) c.put_numbers.ensures.puts in
    last_call c.put_numbers.result _ _ _ (codes " " ++ decimal (length c.args.references.now)) (spaced_texts (map decimal c.args.references.now)) _ c.in_ok-put_spaced.ensures.puts numbers refl
