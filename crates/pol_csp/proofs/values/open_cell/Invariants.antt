use Rattle.std.proofs.Common.{◌≡◌, ℕ, ◌<◌, get_or}
use Rattle.std.specs.Prelude.{IsBitSet}
use Rattle.pol_csp.proofs.values.open_cell.Given as goal

abbrev pub invariant-loop-cell : goal.invariant-loop-cell
invariant-loop-cell l = (c : ℕ) → c < l.cell → (u v : ℕ) → IsBitSet (get_or l.masks c 0) u → IsBitSet
    (get_or l.masks c 0) v → u ≡ v
