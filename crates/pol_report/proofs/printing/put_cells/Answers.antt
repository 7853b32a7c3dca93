use Rattle.std.proofs.Common.{[], ◌∷◌, map, codes, decimal}
use Rattle.pol_base.specs.Names.{class_word}
use Rattle.pol_text.proofs.PrintedLines.{spaced-texts}
use Rattle.pol_report.proofs.PrintLemmas.{line_cut_first, line_cut_last, line_more, line_ended}
use Rattle.pol_report.proofs.printing.put_cells.Goals as goal

pub returns-in_err-put_class-clause-puts : goal.returns-in_err-put_class-clause-puts
returns-in_err-put_class-clause-puts g c =
    line_cut_first c.from_residual.result _ _ (codes "class") (class_word c.args.class ∷ []) (map decimal c.args.cells.now) (codes "\n") c.from_residual.ensures.0 c.in_err-put_class.ensures.puts

pub returns-in_err-put_values-clause-puts : goal.returns-in_err-put_values-clause-puts
returns-in_err-put_values-clause-puts g c =
    let front = rw (spaced-texts c.args.cells.now) at c.in_err-put_values.ensures.puts in
    line_cut_last c.from_residual-in_err-put_values.result _ _ _ (codes "class") (class_word c.args.class ∷ []) (map decimal c.args.cells.now) (codes "\n") c.from_residual-in_err-put_values.ensures.0 c.in_ok-put_class.ensures.puts front

pub returns-clause-puts : goal.returns-clause-puts
returns-clause-puts g c =
    let cells = rw (spaced-texts c.args.cells.now) at c.in_ok-put_values.ensures.puts in
    let line = line_more _ _ _ (codes "class") (class_word c.args.class ∷ []) (map decimal c.args.cells.now) c.in_ok-put_class.ensures.puts cells in
    line_ended c.append.result _ _ _ _ line c.append.ensures.puts
