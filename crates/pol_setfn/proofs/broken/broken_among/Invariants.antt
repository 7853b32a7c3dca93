use Rattle.pol_setfn.specs.Projected.{PreservesAmong}
use Rattle.pol_setfn.proofs.broken.broken_among.Given as goal

-- the relations so far are preserved
abbrev pub invariant-loop-relation : goal.invariant-loop-relation
invariant-loop-relation l = PreservesAmong l.fn.g l.fn.sets l.fn.first l.relation
