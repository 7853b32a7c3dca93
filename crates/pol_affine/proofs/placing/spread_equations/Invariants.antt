use Rattle.std.proofs.Common.{◌≡◌, take, map}
use Rattle.pol_affine.specs.Systems.{spread_over}
use Rattle.pol_affine.proofs.placing.spread_equations.Given as goal

abbrev pub invariant-loop-one : goal.invariant-loop-one
invariant-loop-one l = l.equations.items ≡ map (spread_over l.d l.inst) (take l.one-index l.placed)
