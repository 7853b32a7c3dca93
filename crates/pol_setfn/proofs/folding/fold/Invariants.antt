use Rattle.std.proofs.Common.{◌≡◌, ℕ, ◌+◌, ◌<◌, length, slice_index}
use Rattle.pol_setfn.specs.Folds.{IsFoldAt}
use Rattle.pol_setfn.proofs.folding.fold.Given as goal

-- the cells so far hold the folds
abbrev pub invariant-loop-cell : goal.invariant-loop-cell
invariant-loop-cell l = record {
  long : length l.cells ≡ 31;
  folds : (k : ℕ) → k < l.cell → IsFoldAt l.fn.op (k + 1) (slice_index l.cells k);
  below : (k : ℕ) → k < l.cell → slice_index l.cells k < l.fn.op.domain;
}
