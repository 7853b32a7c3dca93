use Rattle.std.proofs.Common.{[], arith}
use Rattle.pol_text.specs.Texts.{printed_line}
use Rattle.pol_text.proofs.TextLemmas.{mapped-grown, mapped-stopped}
use Rattle.pol_lang.specs.Texts.{tuple_tokens}
use Rattle.pol_lang.proofs.writing.put_tuples.Goals as goal

-- a front of one more text
pub returns-in_err-put_tuple : goal.returns-in_err-put_tuple
returns-in_err-put_tuple c = record { puts = mapped-stopped _ printed_line tuple_tokens _ _ [] _ _ _ c.from_residual.ensures.0 (omega arith) c.loop-i.invariant (rw c.row.ensures.row at c.in_err-put_tuple.ensures.puts) }

-- one more text
pub loop-i-preserved : goal.loop-i-preserved
loop-i-preserved c = mapped-grown printed_line tuple_tokens _ _ [] _ _ _ (omega arith) c.loop-i.invariant (rw c.row.ensures.row at c.in_ok-put_tuple.ensures.puts)
