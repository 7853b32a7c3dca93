use Rattle.std.proofs.Common.{◌≡◌}
use Rattle.pol_maltsev.specs.Views.{AreMade}
use Rattle.pol_maltsev.proofs.sampling.no_samples.Given as goal

-- the values before have no root
abbrev pub invariant-loop-a : goal.invariant-loop-a
invariant-loop-a l = AreMade (λ a row root. root ≡ l.fn.d) l.fn.d l.n l.a l.samples
