use Rattle.std.proofs.Common.{◌≡◌, ℕ, ◌<◌, ◌^◌}
use Rattle.pol_optable.specs.SetFunctions.{value_of_set}
use Rattle.pol_setfn.proofs.closed.is_idempotent.Given as goal

abbrev pub invariant-loop-value : goal.invariant-loop-value
invariant-loop-value l = (v : ℕ) → v < l.value → value_of_set l.fn.g (2 ^ v) ≡ v
