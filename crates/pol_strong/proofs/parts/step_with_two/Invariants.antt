use Rattle.std.proofs.Common.{◌<◌, ℕ, [], ◌∷◌, length}
use Rattle.pol_strong.specs.Insertions.{IsFree}
use Rattle.pol_strong.specs.Stores.{pair_of}
use Rattle.pol_strong.proofs.parts.step_with_two.Given as goal

abbrev pub invariant-loop-i : goal.invariant-loop-i
invariant-loop-i l = (j k : ℕ) → j < l.i → j < k → k < length l.front → IsFree l.store.log (pair_of l.front j ∷ pair_of l.front k ∷ []) (record { variable = l.v; value = l.a })
