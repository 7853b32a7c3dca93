use Rattle.std.proofs.Common.{◌≡◌, ℕ, ◌<◌, length, slice_index}
use Rattle.pol_base.specs.Tuples.{digits_of}
use Rattle.pol_identity.specs.Labels.{labelled}
use Rattle.pol_identity.specs.AffineRule.{sum_at}
use Rattle.pol_identity.proofs.affine.affine_cells.Given as goal

abbrev pub invariant-loop-cell : goal.invariant-loop-cell
invariant-loop-cell l = record {
  long : length l.cells ≡ 125;
  values : (k : ℕ) → k < l.cell
      → slice_index l.cells k ≡ labelled l.fn.labels (sum_at l.fn.labels l.fn.d (digits_of l.fn.d 3 k));
}
