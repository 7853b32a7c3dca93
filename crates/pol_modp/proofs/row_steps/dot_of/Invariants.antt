use Rattle.std.proofs.Common.{◌≡◌, ◌<◌, ◌%◌, take}
use Rattle.pol_modp.specs.Equations.{dot}
use Rattle.pol_modp.proofs.row_steps.dot_of.Given as goal

abbrev pub invariant-loop-i : goal.invariant-loop-i
invariant-loop-i l = record { sum : l.sum ≡ dot (take l.i l.row) (take l.i l.ys) % l.p; below : l.sum < l.p }
