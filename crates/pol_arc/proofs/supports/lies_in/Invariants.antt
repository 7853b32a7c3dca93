use Rattle.std.proofs.Common.{ℕ, ◌<◌, get_or}
use Rattle.std.specs.Prelude.{IsBitSet}
use Rattle.pol_arc.proofs.supports.lies_in.Given as goal

abbrev pub invariant-loop-j : goal.invariant-loop-j
invariant-loop-j l = (k : ℕ) → k < l.j → IsBitSet (get_or l.masks (get_or l.scope k 0) 0) (get_or l.row k 0)
