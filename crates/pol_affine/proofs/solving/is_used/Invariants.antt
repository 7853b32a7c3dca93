use Rattle.std.proofs.Common.{◌≢◌, ℕ, ◌<◌}
use Rattle.pol_relation.specs.Instances.{constraint_of}
use Rattle.pol_affine.proofs.solving.is_used.Given as goal

abbrev pub invariant-loop-c : goal.invariant-loop-c
invariant-loop-c l = (c : ℕ) → c < l.c → (constraint_of l.inst c).relation ≢ l.r
