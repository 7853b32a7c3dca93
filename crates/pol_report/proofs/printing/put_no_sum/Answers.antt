use Rattle.std.proofs.Common.{◌∷◌, map, refl, codes, decimal, length}
use Rattle.pol_text.specs.Texts.{joined}
use Rattle.pol_report.specs.Texts.{instance_line, part_line}
use Rattle.pol_report.proofs.PrintLemmas.{cut_first, last_call}
use Rattle.pol_report.proofs.printing.put_no_sum.Goals as goal

pub returns-in_err-put_no_sum_line-clause-puts : goal.returns-in_err-put_no_sum_line-clause-puts
returns-in_err-put_no_sum_line-clause-puts g c =
    let sum = c.args.combination.now in
    let front = rw (c.len.ensures.parts, c.labels.ensures.labels) at c.in_err-put_no_sum_line.ensures.puts in
    cut_first c.from_residual.result _ _ (instance_line c.args.name.now (codes "no" ∷ codes "affine" ∷ decimal (length sum.parts) ∷ map decimal sum.labels)) (joined part_line sum.parts) _ c.from_residual.ensures.0 front refl

pub returns-clause-puts : goal.returns-clause-puts
returns-clause-puts g c =
    let sum = c.args.combination.now in
    let line = rw (c.len.ensures.parts, c.labels.ensures.labels) at c.in_ok-put_no_sum_line.ensures.puts in
    last_call c.put_parts.result _ _ _ (instance_line c.args.name.now (codes "no" ∷ codes "affine" ∷ decimal (length sum.parts) ∷ map decimal sum.labels)) (joined part_line sum.parts) _ line c.put_parts.ensures.puts refl
