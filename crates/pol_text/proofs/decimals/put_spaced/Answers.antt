use Rattle.std.proofs.Common.{codes, decimal}
use Rattle.pol_text.proofs.TextLemmas.{puts_first, puts_then}
use Rattle.pol_text.proofs.decimals.put_spaced.Goals as goal

pub returns-in_err-append-clause-puts : goal.returns-in_err-append-clause-puts
returns-in_err-append-clause-puts g c =
    puts_first c.from_residual.result _ _ (codes " ") (decimal c.args.n) c.from_residual.ensures.0 c.in_err-append.ensures.puts

pub returns-clause-puts : goal.returns-clause-puts
returns-clause-puts g c =
    puts_then c.put_number.result _ _ _ (codes " ") (decimal c.args.n) c.in_ok-append.ensures.puts c.put_number.ensures.puts
