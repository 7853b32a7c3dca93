use Rattle.pol_arc.specs.Pruned.{Prunes}
use Rattle.pol_arc.specs.Waiting.{IsDone, KeepsDone}
use Rattle.pol_arc.specs.Arcs.{IsSupportedAt}
use Rattle.std.proofs.Common.{ℕ, ◌<◌, ◌≤◌, length}
use Rattle.pol_arc.proofs.pruning.Pruning.revise_constraint.Given as goal

abbrev pub invariant-loop-j : goal.invariant-loop-j
invariant-loop-j l = record {
  prunes : Prunes l.lang l.inst (λ m. (j a : ℕ) → j < l.j → a < l.lang.domain → IsSupportedAt l.lang l.inst m l.c j a) l.initial.self.masks.items l.initial.self.log l.self.masks.items l.self.log;
  done : KeepsDone l.lang l.inst l.initial.self.masks.items l.initial.self.waits.items l.self.masks.items l.self.waits.items;
  again : IsDone l.self.waits.items l.c → length l.self.log ≤ length l.initial.self.log;
}
