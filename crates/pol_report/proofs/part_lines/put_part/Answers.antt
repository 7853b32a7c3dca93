use Rattle.std.proofs.Common.{[], ◌∷◌, map, codes, decimal}
use Rattle.pol_text.proofs.PrintedLines.{spaced-texts}
use Rattle.pol_report.proofs.PrintLemmas.{line_cut_first, line_cut, line_cut_last, line_more, line_ended}
use Rattle.pol_report.proofs.part_lines.put_part.Goals as goal

pub returns-in_err-put_constraint-clause-puts : goal.returns-in_err-put_constraint-clause-puts
returns-in_err-put_constraint-clause-puts g c =
    let part = c.args.part.now in
    line_cut_first c.from_residual.result _ _ (codes "part") (decimal part.c ∷ []) (decimal part.multiplier ∷ decimal part.right ∷ map decimal part.coefs) (codes "\n") c.from_residual.ensures.0 c.in_err-put_constraint.ensures.puts

pub returns-in_err-put_sides-clause-puts : goal.returns-in_err-put_sides-clause-puts
returns-in_err-put_sides-clause-puts g c =
    let part = c.args.part.now in
    line_cut c.from_residual-in_err-put_sides.result _ _ _ (codes "part") (decimal part.c ∷ []) (decimal part.multiplier ∷ decimal part.right ∷ []) (map decimal part.coefs) (codes "\n") c.from_residual-in_err-put_sides.ensures.0 c.in_ok-put_constraint.ensures.puts c.in_err-put_sides.ensures.puts

pub returns-in_err-put_values-clause-puts : goal.returns-in_err-put_values-clause-puts
returns-in_err-put_values-clause-puts g c =
    let part = c.args.part.now in
    let front = rw (c.as_slice.ensures.items, spaced-texts part.coefs) at c.in_err-put_values.ensures.puts in
    let sides = line_more _ _ _ (codes "part") (decimal part.c ∷ []) (decimal part.multiplier ∷ decimal part.right ∷ []) c.in_ok-put_constraint.ensures.puts c.in_ok-put_sides.ensures.puts in
    line_cut_last c.from_residual-in_err-put_values.result _ _ _ (codes "part") (decimal part.c ∷ decimal part.multiplier ∷ decimal part.right ∷ []) (map decimal part.coefs) (codes "\n") c.from_residual-in_err-put_values.ensures.0 sides front

pub returns-clause-puts : goal.returns-clause-puts
returns-clause-puts g c =
    let part = c.args.part.now in
    let coefs = rw (c.as_slice.ensures.items, spaced-texts part.coefs) at c.in_ok-put_values.ensures.puts in
    let sides = line_more _ _ _ (codes "part") (decimal part.c ∷ []) (decimal part.multiplier ∷ decimal part.right ∷ []) c.in_ok-put_constraint.ensures.puts c.in_ok-put_sides.ensures.puts in
    let line = line_more _ _ _ (codes "part") (decimal part.c ∷ decimal part.multiplier ∷ decimal part.right ∷ []) (map decimal part.coefs) sides coefs in
    line_ended c.append.result _ _ _ _ line c.append.ensures.puts
