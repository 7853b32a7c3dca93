use Rattle.pol_nogood.proofs.PlaceLemmas.{AreDistinct}
use Rattle.pol_nogood.proofs.cases.repeats.Given as goal

abbrev pub invariant-loop-place : goal.invariant-loop-place
invariant-loop-place l = AreDistinct l.scope l.place
