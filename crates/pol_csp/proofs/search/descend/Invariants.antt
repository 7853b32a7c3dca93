use Rattle.std.proofs.Common.{length}
use Rattle.pol_csp.specs.Searching.{FollowFrom, IsFound, IsSettled, Leads}
use Rattle.pol_csp.proofs.search.descend.Given as goal

abbrev pub invariant-loop-cell : goal.invariant-loop-cell
invariant-loop-cell g l = record {
  follow : FollowFrom (g.C.Conditions.wanted l.fn.task.conditions.now l.fn.task.lang.now) l.fn.task.lang.now
      (length l.fn.masks) l.state.pool;
  leads : Leads (g.C.Conditions.wanted l.fn.task.conditions.now l.fn.task.lang.now) l.fn.masks l.masks;
  settled : IsSettled l.masks l.cell;
  found : IsFound (g.C.Conditions.wanted l.fn.task.conditions.now l.fn.task.lang.now) l.masks l.best;
}
