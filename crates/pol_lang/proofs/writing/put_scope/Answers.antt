use Rattle.std.proofs.Common.{[], ◌++◌, codes, slice_index_or}
use Rattle.pol_text.proofs.TextLemmas.{mapped-grown, mapped-stopped}
use Rattle.pol_lang.proofs.writing.put_scope.Goals as goal

-- a front of one more text
pub returns-in_err-put_token : goal.returns-in_err-put_token
returns-in_err-put_token c = record { puts = mapped-stopped _ (λ name. codes " " ++ name) (λ x. slice_index_or c.args.inst.now.variables x []) _ _ 0 _ _ _ c.from_residual.ensures.0 c.loop-variable-test.true c.loop-variable.invariant (rw c.variable.ensures.name at c.in_err-put_token.ensures.puts) }

-- one more text
pub loop-variable-preserved : goal.loop-variable-preserved
loop-variable-preserved c = mapped-grown (λ name. codes " " ++ name) (λ x. slice_index_or c.args.inst.now.variables x []) _ _ 0 _ _ _ c.loop-variable-test.true c.loop-variable.invariant (rw c.variable.ensures.name at c.in_ok-put_token.ensures.puts)
