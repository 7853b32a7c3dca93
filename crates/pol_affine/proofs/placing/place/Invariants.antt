use Rattle.std.proofs.Common.{◌≡◌, ◌++◌, take, map}
use Rattle.pol_affine.specs.Systems.{placed_at}
use Rattle.pol_affine.proofs.placing.place.Given as goal

abbrev pub invariant-loop-i : goal.invariant-loop-i
invariant-loop-i l = l.placed.items ≡ l.fn.placed.items ++ map (placed_at l.c) (take l.i l.equations)
