use Rattle.std.proofs.Common.{◌≡◌, ℕ, ◌<◌, [], ◌∷◌, slice_index}
use Rattle.pol_optable.specs.Operations.{value_at}
use Rattle.pol_optable.specs.Identities.{affine_sum}
use Rattle.pol_identity.proofs.labels.is_affine_by.Given as goal

abbrev pub invariant-loop-x : goal.invariant-loop-x
invariant-loop-x l =
    (x y z : ℕ)
    → x < l.x
    → y < l.d
    → z < l.d
    → slice_index l.fn.labels (value_at l.fn.t (x ∷ y ∷ z ∷ []))
    ≡ affine_sum l.fn.t.domain (slice_index l.fn.labels x) (slice_index l.fn.labels y) (slice_index l.fn.labels z)

abbrev pub invariant-loop-y : goal.invariant-loop-y
invariant-loop-y l =
    (y z : ℕ)
    → y < l.y
    → z < l.d
    → slice_index l.fn.labels (value_at l.fn.t (l.x ∷ y ∷ z ∷ []))
    ≡ affine_sum l.fn.t.domain (slice_index l.fn.labels l.x) (slice_index l.fn.labels y) (slice_index l.fn.labels z)

abbrev pub invariant-loop-z : goal.invariant-loop-z
invariant-loop-z l =
    (z : ℕ)
    → z < l.z
    → slice_index l.fn.labels (value_at l.fn.t (l.x ∷ l.y ∷ z ∷ []))
    ≡ affine_sum l.fn.t.domain (slice_index l.fn.labels l.x) (slice_index l.fn.labels l.y) (slice_index l.fn.labels z)
