use Rattle.pol_arc.proofs.WaitingLemmas.{IsTouchedBelow}
use Rattle.std.proofs.Common.{◌≡◌}
use Rattle.pol_arc.proofs.pruning.Pruning.touch.Given as goal

abbrev pub invariant-loop-c : goal.invariant-loop-c
invariant-loop-c l = record {
  touched : IsTouchedBelow l.inst l.x l.c l.initial.self.waits.items l.self.waits.items;
  log : l.self.log ≡ l.initial.self.log;
  masks : l.self.masks.items ≡ l.initial.self.masks.items;
}
