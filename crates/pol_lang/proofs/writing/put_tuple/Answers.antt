use Rattle.std.proofs.Common.{codes, decimal, map}
use Rattle.pol_text.proofs.PrintedLines.{spaced-texts}
use Rattle.pol_text.proofs.TextLemmas.{puts_stopped, puts_line, GrowsByFront-line}
use Rattle.pol_lang.proofs.writing.put_tuple.Goals as goal

pub returns-in_err-put_values : goal.returns-in_err-put_values
returns-in_err-put_values c = record { puts = puts_stopped _ _ _ _ c.from_residual-in_err-put_values.ensures.0 (GrowsByFront-line _ _ _ (codes "tuple") (map decimal c.args.row.now) c.in_ok-append.ensures.ok (rw (spaced-texts c.args.row.now) at c.in_err-put_values.ensures.puts)) }

pub returns : goal.returns
returns c = record { puts = puts_line _ _ _ _ _ (codes "tuple") (map decimal c.args.row.now) c.in_ok-append.ensures.ok (rw (spaced-texts c.args.row.now) at c.in_ok-put_values.ensures.puts) c.append-2.ensures.ok c.append-2.ensures.err }
