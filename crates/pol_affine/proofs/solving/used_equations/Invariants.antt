use Rattle.std.proofs.Common.{◌≡◌, take, length}
use Rattle.pol_affine.specs.Systems.{DescribeUsed}
use Rattle.pol_affine.proofs.solving.used_equations.Given as goal

abbrev pub invariant-loop-r : goal.invariant-loop-r
invariant-loop-r l = (length l.tables.items ≡ l.r) × DescribeUsed (take l.lang.domain l.labels) l.lang l.inst l.tables.items
