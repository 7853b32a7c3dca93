use Rattle.pol_classify.specs.Found.{AreFound}
use Rattle.pol_classify.proofs.finding.classify.Given as goal

-- the lines of the classes so far
abbrev pub invariant-loop-class : goal.invariant-loop-class
invariant-loop-class l = AreFound l.lang l.class-index l.classes
