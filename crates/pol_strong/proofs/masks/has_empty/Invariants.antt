use Rattle.std.proofs.Common.{◌≢◌, take, All}
use Rattle.std.specs.Bool.{OnFalse}
use Rattle.pol_strong.proofs.masks.has_empty.Given as goal

abbrev pub invariant-loop-v : goal.invariant-loop-v
invariant-loop-v l = OnFalse l.empty (All (λ m. m ≢ 0) (take l.v l.masks))
