use Rattle.std.proofs.Common.{length, sum}
use Rattle.pol_csp.specs.Narrowing.{Narrows}
use Rattle.pol_csp.specs.Searching.{FollowFrom}
use Rattle.pol_csp.proofs.search.+find.Given as goal

abbrev pub decreases-find : goal.decreases-find
decreases-find g l = sum l.masks.now

abbrev pub invariant-branches : goal.invariant-branches
invariant-branches g l = record {
  follow : FollowFrom (g.C.Conditions.wanted l.fn.task.conditions.now l.fn.task.lang.now) l.fn.task.lang.now
      (length l.fn.masks) l.state.pool;
  narrows : Narrows (g.C.Conditions.wanted l.fn.task.conditions.now l.fn.task.lang.now) l.fn.masks l.masks;
}

abbrev pub decreases-branches : goal.decreases-branches
decreases-branches g l = sum l.masks
