use Rattle.std.proofs.Common.{ℕ, ◌<◌}
use Rattle.pol_maltsev.specs.Samples.{IsMissing}
use Rattle.pol_maltsev.proofs.sampling.missing_third.Given as goal

-- none of the values before
abbrev pub invariant-loop-z : goal.invariant-loop-z
invariant-loop-z l = (c : ℕ) → c < l.z → ¬ IsMissing l.op l.samples l.x l.y c
