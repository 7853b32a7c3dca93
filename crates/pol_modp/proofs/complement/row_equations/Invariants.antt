use Rattle.std.proofs.Common.{◌≡◌, map, take}
use Rattle.pol_modp.specs.Nulls.{row_equation}
use Rattle.pol_modp.proofs.complement.row_equations.Given as goal

abbrev pub invariant-loop-row : goal.invariant-loop-row
invariant-loop-row l = l.equations.items ≡ map (row_equation l.p) (take l.row-index l.rows)
