use Rattle.pol_maltsev.specs.Views.{AreMade, IsFullAt}
use Rattle.pol_maltsev.proofs.full.full_at.Given as goal

-- the values before are made
abbrev pub invariant-loop-a : goal.invariant-loop-a
invariant-loop-a l = AreMade (IsFullAt l.n l.p) l.fn.d l.n l.a l.made
