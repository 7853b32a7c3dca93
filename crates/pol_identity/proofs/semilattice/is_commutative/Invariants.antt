use Rattle.std.proofs.Common.{◌≡◌, ℕ, ◌<◌, [], ◌∷◌}
use Rattle.pol_optable.specs.Operations.{value_at}
use Rattle.pol_identity.proofs.semilattice.is_commutative.Given as goal

abbrev pub invariant-loop-x : goal.invariant-loop-x
invariant-loop-x l =
    (x y : ℕ)
    → x < l.x
    → y < l.size
    → value_at l.t (x ∷ y ∷ []) ≡ value_at l.t (y ∷ x ∷ [])

abbrev pub invariant-loop-y : goal.invariant-loop-y
invariant-loop-y l = (y : ℕ) → y < l.y → value_at l.t (l.x ∷ y ∷ []) ≡ value_at l.t (y ∷ l.x ∷ [])
