use Rattle.std.proofs.Common.{ℕ, ◌<◌}
use Rattle.pol_maltsev.specs.Samples.{IsMissing}
use Rattle.pol_maltsev.proofs.sampling.missing_pair.Given as goal

-- none of the values before
abbrev pub invariant-loop-y : goal.invariant-loop-y
invariant-loop-y l = (b : ℕ) → b < l.y → (c : ℕ) → ¬ IsMissing l.op l.samples l.x b c
