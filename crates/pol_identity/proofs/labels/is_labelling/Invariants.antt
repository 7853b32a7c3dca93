use Rattle.std.proofs.Common.{◌≡◌, ℕ, ◌<◌, slice_index}
use Rattle.pol_identity.proofs.labels.is_labelling.Given as goal

abbrev pub invariant-loop-y : goal.invariant-loop-y
invariant-loop-y l = record {
  below : (v : ℕ) → v < l.y → slice_index l.fn.labels v < l.size;
  apart : (v w : ℕ) → v < w → w < l.y → slice_index l.fn.labels v ≡ slice_index l.fn.labels w → ⊥;
}

abbrev pub invariant-loop-x : goal.invariant-loop-x
invariant-loop-x l = (v : ℕ) → v < l.x → slice_index l.fn.labels v ≡ slice_index l.fn.labels l.y → ⊥
