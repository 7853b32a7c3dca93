use Rattle.std.proofs.Common.{[], map, codes, decimal}
use Rattle.pol_text.proofs.PrintedLines.{spaced-texts}
use Rattle.pol_report.proofs.PrintLemmas.{line_cut_last, line_more, line_ended, line_cut_first}
use Rattle.pol_report.proofs.printing.put_sizes.Goals as goal

pub returns-in_err-put_numbers-clause-puts : goal.returns-in_err-put_numbers-clause-puts
returns-in_err-put_numbers-clause-puts g c =
    let front = rw (spaced-texts c.args.sizes.now) at c.in_err-put_numbers.ensures.puts in
    line_cut_last c.from_residual-in_err-put_numbers.result _ _ _ (codes "sizes") [] (map decimal c.args.sizes.now) (codes "\n") c.from_residual-in_err-put_numbers.ensures.0 c.in_ok-append.ensures.puts front

pub returns-clause-puts : goal.returns-clause-puts
returns-clause-puts g c =
    let sizes = rw (spaced-texts c.args.sizes.now) at c.in_ok-put_numbers.ensures.puts in
    let line = line_more _ _ _ (codes "sizes") [] (map decimal c.args.sizes.now) c.in_ok-append.ensures.puts sizes in
    line_ended c.append-2.result _ _ _ _ line c.append-2.ensures.puts

pub returns-in_err-append-clause-puts : goal.returns-in_err-append-clause-puts
returns-in_err-append-clause-puts g c =
    line_cut_first c.from_residual.result _ _ (codes "sizes") [] (map decimal c.args.sizes.now) (codes "\n") c.from_residual.ensures.0 c.in_err-append.ensures.puts
