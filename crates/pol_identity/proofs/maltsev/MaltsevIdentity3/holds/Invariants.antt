use Rattle.std.proofs.Common.{◌≡◌, ℕ, ◌<◌, [], ◌∷◌}
use Rattle.pol_optable.specs.Operations.{value_at}
use Rattle.pol_identity.proofs.maltsev.MaltsevIdentity3.holds.Given as goal

abbrev pub invariant-loop-x : goal.invariant-loop-x
invariant-loop-x l = record {
  right : (x y : ℕ) → x < l.x → y < l.size → value_at l.t (x ∷ y ∷ y ∷ []) ≡ x;
  left : (x y : ℕ) → x < l.x → y < l.size → value_at l.t (y ∷ y ∷ x ∷ []) ≡ x;
}

abbrev pub invariant-loop-y : goal.invariant-loop-y
invariant-loop-y l = record {
  right : (y : ℕ) → y < l.y → value_at l.t (l.x ∷ y ∷ y ∷ []) ≡ l.x;
  left : (y : ℕ) → y < l.y → value_at l.t (y ∷ y ∷ l.x ∷ []) ≡ l.x;
}
