use Rattle.std.proofs.Common.{[], ◌∷◌, codes, decimal}
use Rattle.pol_text.proofs.TextLemmas.{puts_first}
use Rattle.pol_report.proofs.PrintLemmas.{line_token}
use Rattle.pol_text.specs.Texts.{spaced_texts}
use Rattle.pol_report.proofs.part_lines.put_constraint.Goals as goal

pub returns-in_err-append-clause-puts : goal.returns-in_err-append-clause-puts
returns-in_err-append-clause-puts g c =
    puts_first c.from_residual.result _ _ (codes "part") (spaced_texts (decimal c.args.c ∷ [])) c.from_residual.ensures.0 c.in_err-append.ensures.puts

pub returns-clause-puts : goal.returns-clause-puts
returns-clause-puts g c =
    line_token c.put_spaced.result _ _ _ (codes "part") [] (decimal c.args.c) c.in_ok-append.ensures.puts (rw c.from.ensures at c.put_spaced.ensures.puts)
