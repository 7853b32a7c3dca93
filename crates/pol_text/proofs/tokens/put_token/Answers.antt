use Rattle.std.proofs.Common.{codes}
use Rattle.pol_text.proofs.TextLemmas.{puts_first, puts_then}
use Rattle.pol_text.proofs.tokens.put_token.Goals as goal

pub returns-in_err-append-clause-puts : goal.returns-in_err-append-clause-puts
returns-in_err-append-clause-puts g c =
    puts_first c.from_residual.result _ _ (codes " ") (c.args.token.now) c.from_residual.ensures.0 c.in_err-append.ensures.puts

pub returns-clause-puts : goal.returns-clause-puts
returns-clause-puts g c =
    puts_then c.append-2.result _ _ _ (codes " ") (c.args.token.now) c.in_ok-append.ensures.puts c.append-2.ensures.puts
