use Rattle.std.proofs.Common.{◌<◌, ℕ, [], ◌∷◌}
use Rattle.pol_strong.specs.Insertions.{IsFree}
use Rattle.pol_strong.specs.Stores.{pair_of}
use Rattle.pol_strong.proofs.parts.step_with_two_from.Given as goal

abbrev pub invariant-loop-j : goal.invariant-loop-j
invariant-loop-j l = (k : ℕ) → l.i < k → k < l.j → IsFree l.store.log (pair_of l.front l.i ∷ pair_of l.front k ∷ []) (record { variable = l.v; value = l.a })
