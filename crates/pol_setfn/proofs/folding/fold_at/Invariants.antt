use Rattle.std.proofs.Common.{◌<◌}
use Rattle.std.specs.Prelude.{IfSome}
use Rattle.pol_setfn.proofs.FoldingLemmas.{Folding}
use Rattle.pol_setfn.proofs.folding.fold_at.Given as goal

-- the members below the value are folded
abbrev pub invariant-loop-value : goal.invariant-loop-value
invariant-loop-value l = record {
  folding : Folding l.fn.op l.fn.mask l.value l.folded;
  below : IfSome l.folded (λ a. a < l.fn.op.domain);
}
