use Rattle.std.proofs.Common.{◌≢◌, take, All}
use Rattle.pol_arc.proofs.consistency.first_empty.Given as goal

abbrev pub invariant-loop-v : goal.invariant-loop-v
invariant-loop-v l = All (λ m. m ≢ 0) (take l.v l.masks)
