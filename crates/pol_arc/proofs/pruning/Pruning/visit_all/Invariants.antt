use Rattle.pol_arc.specs.Pruned.{Prunes}
use Rattle.pol_arc.specs.Waiting.{DoneAreSupported}
use Rattle.pol_arc.specs.Arcs.{SupportsAll}
use Rattle.std.proofs.Common.{◌≡◌, ℕ, ◌<◌, length}
use Rattle.pol_arc.proofs.pruning.Pruning.visit_all.Given as goal

abbrev pub invariant-loop-c : goal.invariant-loop-c
invariant-loop-c l = record {
  prunes : Prunes l.lang l.inst (λ m. (c : ℕ) → c < l.c → SupportsAll l.lang l.inst m c) l.initial.self.masks.items l.initial.self.log l.self.masks.items l.self.log;
  long : length l.self.waits.items ≡ length l.inst.constraints;
  waiting : DoneAreSupported l.lang l.inst l.self.masks.items l.self.waits.items;
}
