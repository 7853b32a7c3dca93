use Rattle.std.proofs.Common.{ℕ, ◌<◌}
use Rattle.pol_maltsev.specs.Samples.{IsMissing}
use Rattle.pol_maltsev.proofs.sampling.missing.Given as goal

-- none of the values before
abbrev pub invariant-loop-x : goal.invariant-loop-x
invariant-loop-x l = (a : ℕ) → a < l.x → (b c : ℕ) → ¬ IsMissing l.op l.samples a b c
