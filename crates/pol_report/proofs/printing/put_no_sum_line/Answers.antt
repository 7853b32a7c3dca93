use Rattle.std.proofs.Common.{[], ◌∷◌, map, codes, decimal}
use Rattle.pol_text.proofs.PrintedLines.{spaced-texts}
use Rattle.pol_report.proofs.PrintLemmas.{line_cut_first, line_cut_last, line_more, line_ended}
use Rattle.pol_report.proofs.printing.put_no_sum_line.Goals as goal

pub returns-in_err-put_counted-clause-puts : goal.returns-in_err-put_counted-clause-puts
returns-in_err-put_counted-clause-puts g c =
    line_cut_first c.from_residual.result _ _ (codes "instance") (c.args.name.now ∷ codes "no" ∷ codes "affine" ∷ decimal c.args.parts ∷ []) (map decimal c.args.labels.now) (codes "\n") c.from_residual.ensures.0 c.in_err-put_counted.ensures.puts

pub returns-in_err-put_values-clause-puts : goal.returns-in_err-put_values-clause-puts
returns-in_err-put_values-clause-puts g c =
    let front = rw (spaced-texts c.args.labels.now) at c.in_err-put_values.ensures.puts in
    line_cut_last c.from_residual-in_err-put_values.result _ _ _ (codes "instance") (c.args.name.now ∷ codes "no" ∷ codes "affine" ∷ decimal c.args.parts ∷ []) (map decimal c.args.labels.now) (codes "\n") c.from_residual-in_err-put_values.ensures.0 c.in_ok-put_counted.ensures.puts front

pub returns-clause-puts : goal.returns-clause-puts
returns-clause-puts g c =
    let labels = rw (spaced-texts c.args.labels.now) at c.in_ok-put_values.ensures.puts in
    let line = line_more _ _ _ (codes "instance") (c.args.name.now ∷ codes "no" ∷ codes "affine" ∷ decimal c.args.parts ∷ []) (map decimal c.args.labels.now) c.in_ok-put_counted.ensures.puts labels in
    line_ended c.append.result _ _ _ _ line c.append.ensures.puts
