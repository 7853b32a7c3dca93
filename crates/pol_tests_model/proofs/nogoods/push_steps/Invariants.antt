use Rattle.std.proofs.Common.{◌≡◌, ◌+◌, length}
use Rattle.pol_tests_model.proofs.nogoods.push_steps.Given as goal

abbrev pub invariant-loop-by : goal.invariant-loop-by
invariant-loop-by l = length l.log ≡ length l.fn.log + l.by-index
