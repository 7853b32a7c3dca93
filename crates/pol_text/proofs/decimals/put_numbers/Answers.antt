use Rattle.std.proofs.Common.{◌++◌, ◌∙◌, codes, decimal, arith}
use Rattle.pol_text.proofs.TextLemmas.{joined-appended, joined-cut}
use Rattle.pol_text.proofs.decimals.put_numbers.Goals as goal

-- a front of one more text
pub returns-in_err-put_spaced-clause-puts : goal.returns-in_err-put_spaced-clause-puts
returns-in_err-put_spaced-clause-puts g c =
    joined-cut _ (λ n. codes " " ++ decimal n) _ _ 0 _ _ _ c.from_residual.ensures.0 c.loop-number-test.true c.loop-number.invariant.so_far (rw c.from.ensures at c.in_err-put_spaced.ensures.puts)

-- one more text
pub loop-number-preserved : goal.loop-number-preserved
loop-number-preserved g c = record {
  so_far = joined-appended (λ n. codes " " ++ decimal n) _ _ 0 _ _ _ c.loop-number-test.true c.loop-number.invariant.so_far (rw c.from.ensures at c.in_ok-put_spaced.ensures.puts);
  place = c.in_ok-put_spaced.ensures.place ∙ c.loop-number.invariant.place;
  sent = omega (arith, c.in_ok-put_spaced.ensures.sent, c.loop-number.invariant.sent);
  calm = c.in_ok-put_spaced.ensures.calm ∙ c.loop-number.invariant.calm;
}
