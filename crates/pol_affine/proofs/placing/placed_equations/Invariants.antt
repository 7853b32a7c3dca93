use Rattle.std.proofs.Common.{◌≡◌}
use Rattle.pol_affine.specs.Systems.{placed_in}
use Rattle.pol_affine.proofs.placing.placed_equations.Given as goal

abbrev pub invariant-loop-c : goal.invariant-loop-c
invariant-loop-c l = l.placed.items ≡ placed_in l.inst l.tables l.c
