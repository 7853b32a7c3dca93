use Rattle.std.proofs.Common.{◌≡◌, ℕ, ◌<◌, slice_index}
use Rattle.pol_affine.proofs.solving.value_of.Given as goal

abbrev pub invariant-loop-value : goal.invariant-loop-value
invariant-loop-value l = (v : ℕ) → v < l.value → slice_index l.fn.labels v ≡ l.fn.label → ⊥
