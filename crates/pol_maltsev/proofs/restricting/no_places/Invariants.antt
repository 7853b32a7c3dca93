use Rattle.std.proofs.Common.{◌≡◌, length}
use Rattle.pol_maltsev.proofs.restricting.no_places.Given as goal

-- so many places are there
abbrev pub invariant-loop-p : goal.invariant-loop-p
invariant-loop-p l = length l.places.items ≡ l._p
