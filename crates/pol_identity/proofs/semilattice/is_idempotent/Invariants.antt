use Rattle.std.proofs.Common.{◌≡◌, ℕ, ◌<◌, [], ◌∷◌}
use Rattle.pol_optable.specs.Operations.{value_at}
use Rattle.pol_identity.proofs.semilattice.is_idempotent.Given as goal

abbrev pub invariant-loop-x : goal.invariant-loop-x
invariant-loop-x l = (x : ℕ) → x < l.x → value_at l.t (x ∷ x ∷ []) ≡ x
