use Rattle.std.proofs.Common.{[], ◌++◌, codes, arith}
use Rattle.pol_text.proofs.TextLemmas.{joined-grown, joined-stopped}
use Rattle.pol_lang.proofs.writing.put_variables.Goals as goal

-- a front of one more text
pub returns-in_err-put_token : goal.returns-in_err-put_token
returns-in_err-put_token c = record { puts = joined-stopped _ (λ name. codes " " ++ name) _ _ [] _ _ _ c.from_residual.ensures.0 (omega arith) c.loop-i.invariant (rw c.variable.ensures.name at c.in_err-put_token.ensures.puts) }

-- one more text
pub loop-i-preserved : goal.loop-i-preserved
loop-i-preserved c = joined-grown (λ name. codes " " ++ name) _ _ [] _ _ _ (omega arith) c.loop-i.invariant (rw c.variable.ensures.name at c.in_ok-put_token.ensures.puts)
