use Rattle.std.proofs.Common.{length, sum}
use Rattle.pol_csp.specs.Narrowing.{Narrows}
use Rattle.pol_csp.specs.Searching.{FollowFrom, IsFound}
use Rattle.pol_csp.proofs.search.settle.Given as goal

abbrev pub invariant-values : goal.invariant-values
invariant-values g l = record {
  follow : FollowFrom (g.C.Conditions.wanted l.fn.task.conditions.now l.fn.task.lang.now) l.fn.task.lang.now
      (length l.fn.masks) l.state.pool;
  narrows : Narrows (g.C.Conditions.wanted l.fn.task.conditions.now l.fn.task.lang.now) l.fn.masks l.masks;
  found : IsFound (g.C.Conditions.wanted l.fn.task.conditions.now l.fn.task.lang.now) l.masks l.found;
}

abbrev pub decreases-values : goal.decreases-values
decreases-values g l = sum l.masks
