use Rattle.std.proofs.Common.{ℕ, ◌+◌, ◌<◌, slice_index}
use Rattle.std.specs.Prelude.{◌==◌}
use Rattle.std.specs.List.{count_by}
use Rattle.pol_base.specs.Tuples.{digits_of}
use Rattle.pol_identity.proofs.near_unanimity.forced_value.Given as goal

abbrev pub invariant-loop-place : goal.invariant-loop-place
invariant-loop-place l =
    let digits = digits_of l.fn.d l.fn.k l.fn.cell in
    (j : ℕ)
    → j < l.place
    → count_by (λ y. y == slice_index digits j) digits + 1 < l.fn.k
