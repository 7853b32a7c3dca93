use Rattle.pol_nogood.proofs.Counting.{nogood_count}
use Rattle.pol_arc.specs.Pruned.{IsPruned}
use Rattle.pol_arc.specs.Waiting.{DoneAreSupported}
use Rattle.std.proofs.Common.{◌-◌, length, ◌≡◌}
use Rattle.pol_arc.proofs.pruning.Pruning.settle.Given as goal

abbrev pub invariant-loop-self : goal.invariant-loop-self
invariant-loop-self l = record {
  pruned : IsPruned l.lang l.inst l.self.masks.items l.self.log;
  long : length l.self.waits.items ≡ length l.inst.constraints;
  waiting : DoneAreSupported l.lang l.inst l.self.masks.items l.self.waits.items;
}

abbrev pub decreases-loop-self : goal.decreases-loop-self
decreases-loop-self l = nogood_count l.lang.domain (length l.inst.variables) 1 - length l.self.log
