use Rattle.std.proofs.Common.{ℕ, ◌<◌}
use Rattle.pol_base.specs.Tuples.{digits_of}
use Rattle.pol_identity.specs.Labels.{IsAffineLabelling}
use Rattle.pol_identity.proofs.labels.affine_labels.Given as goal

abbrev pub invariant-loop-number : goal.invariant-loop-number
invariant-loop-number l =
    let d = l.t.domain in
    (lower : ℕ) → lower < l.number → ¬ IsAffineLabelling l.t (digits_of d d lower)
