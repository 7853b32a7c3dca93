use Rattle.std.proofs.Common.{◌≡◌, ◌≢◌, ◌<◌, ℕ, All}
use Rattle.pol_strong.specs.Contradictions.{IsContradicted}
use Rattle.pol_strong.specs.Contradictions.{IsOpen}
use Rattle.pol_strong.specs.Sweeps.{AreBeside}
use Rattle.pol_strong.proofs.closing.delete_by_variable.Given as goal

abbrev pub invariant-loop-v : goal.invariant-loop-v
invariant-loop-v l = record {
  same : l.store ≡ l.initial.store;
  open_before : (w : ℕ) → w < l.v → All (λ p. p.variable ≢ w) l.front → AreBeside l.lang.domain l.store.log l.front l.masks → (IsContradicted l.store.log l.front → ⊥) → IsOpen l.lang.domain l.store.log l.front w;
}
