use Rattle.pol_setfn.specs.Projected.{AddsProjected, IsBrokenAt}
use Rattle.pol_setfn.proofs.broken.add_vectors.Given as goal

-- constraints of sets of values of rows alone are added, and the masks are broken
abbrev pub invariant-loop : goal.invariant-loop
invariant-loop l = record {
  at : IsBrokenAt l.fn.g l.fn.sets l.fn.broken.relation l.masks;
  added : AddsProjected l.fn.sets l.fn.pool l.pool;
}
