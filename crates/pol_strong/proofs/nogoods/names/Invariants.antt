use Rattle.std.proofs.Common.{◌≢◌, take, All}
use Rattle.pol_strong.proofs.nogoods.names.Given as goal

abbrev pub invariant-loop-i : goal.invariant-loop-i
invariant-loop-i l = All (λ p. p.variable ≢ l.v) (take l.i l.nogood)
