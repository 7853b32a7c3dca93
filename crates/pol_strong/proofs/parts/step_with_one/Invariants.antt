use Rattle.std.proofs.Common.{◌<◌, ℕ, [], ◌∷◌}
use Rattle.pol_strong.specs.Insertions.{IsFree}
use Rattle.pol_strong.specs.Stores.{pair_of}
use Rattle.pol_strong.proofs.parts.step_with_one.Given as goal

abbrev pub invariant-loop-i : goal.invariant-loop-i
invariant-loop-i l = (k : ℕ) → k < l.i → IsFree l.store.log (pair_of l.front k ∷ []) (record { variable = l.v; value = l.a })
