use Rattle.std.proofs.Common.{◌≡◌, ◌<◌, length, take, All}
use Rattle.pol_affine.specs.Systems.{weights}
use Rattle.pol_affine.proofs.placing.add_at_scope.Given as goal

abbrev pub invariant-loop-i : goal.invariant-loop-i
invariant-loop-i l = (l.row ≡ weights l.fn.d (length l.fn.row) (take l.i l.scope) (take l.i l.coefs)) × All (λ a. a < l.fn.d) l.row
