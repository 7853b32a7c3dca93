use Rattle.std.proofs.Common.{◌++◌, ◌∙◌, codes, decimal, arith}
use Rattle.pol_text.proofs.TextLemmas.{joined-appended, joined-cut}
use Rattle.pol_text.proofs.decimals.put_values.Goals as goal

-- a front of one more text
pub returns-in_err-put_spaced-clause-puts : goal.returns-in_err-put_spaced-clause-puts
returns-in_err-put_spaced-clause-puts g c =
    joined-cut _ (λ n. codes " " ++ decimal n) _ _ 0 _ _ _ c.from_residual.ensures.0 c.loop-value-test.true c.loop-value.invariant.so_far (rw c.from.ensures at c.in_err-put_spaced.ensures.puts)

-- one more text
pub loop-value-preserved : goal.loop-value-preserved
loop-value-preserved g c = record {
  so_far = joined-appended (λ n. codes " " ++ decimal n) _ _ 0 _ _ _ c.loop-value-test.true c.loop-value.invariant.so_far (rw c.from.ensures at c.in_ok-put_spaced.ensures.puts);
  place = c.in_ok-put_spaced.ensures.place ∙ c.loop-value.invariant.place;
  sent = omega (arith, c.in_ok-put_spaced.ensures.sent, c.loop-value.invariant.sent);
  calm = c.in_ok-put_spaced.ensures.calm ∙ c.loop-value.invariant.calm;
}
