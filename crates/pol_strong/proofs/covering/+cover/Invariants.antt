use Rattle.std.proofs.Common.{◌<◌, ◌≤◌, ◌-◌, length, Contains}
use Rattle.pol_relation.specs.Instances.{constraint_of}
use Rattle.pol_strong.specs.Covers.{CoversBefore, CoversBelow, Adds}
use Rattle.pol_strong.proofs.covering.+cover.Given as goal

abbrev pub decreases-cover : goal.decreases-cover
decreases-cover l = l.most

abbrev pub invariant-loop-a : goal.invariant-loop-a
invariant-loop-a l = Adds l.lang l.inst (λ log. CoversBefore l.lang l.inst (constraint_of l.inst l.c) l.front l.low l.x l.most log × CoversBelow l.lang l.inst (constraint_of l.inst l.c) l.front l.x l.a l.most log) l.fn.store l.store

abbrev pub invariant-loop-x : goal.invariant-loop-x
invariant-loop-x l = record {
  adds : Adds l.lang l.inst (λ log. CoversBefore l.lang l.inst (constraint_of l.inst l.c) l.front l.low l.x l.most log) l.fn.store l.store;
  few : l.x ≤ length l.inst.variables;
  from : l.x < length l.inst.variables → l.low ≤ l.x;
  on : l.x < length l.inst.variables → Contains (constraint_of l.inst l.c).scope l.x;
}

abbrev pub decreases-loop-x : goal.decreases-loop-x
decreases-loop-x l = l.n - l.x
