use Rattle.std.proofs.Common.{◌≡◌, ℕ, ◌-◌, ◌<◌, length, slice_index}
use Rattle.pol_setfn.proofs.broken.cells_of.Given as goal

-- the cells of the masks so far
abbrev pub invariant-loop-place : goal.invariant-loop-place
invariant-loop-place l = record {
  long : length l.cells ≡ 6;
  so_far : (k : ℕ) → k < l.place → slice_index l.cells k ≡ slice_index l.fn.masks k - 1;
}
