use Rattle.std.proofs.Common.{ℕ, ◌<◌}
use Rattle.pol_identity.specs.Association.{Associates}
use Rattle.pol_identity.proofs.association.is_associative.Given as goal

abbrev pub invariant-loop-x : goal.invariant-loop-x
invariant-loop-x l = (x y z : ℕ) → x < l.x → y < l.size → z < l.size → Associates l.t x y z

abbrev pub invariant-loop-y : goal.invariant-loop-y
invariant-loop-y l = (y z : ℕ) → y < l.y → z < l.size → Associates l.t l.x y z

abbrev pub invariant-loop-z : goal.invariant-loop-z
invariant-loop-z l = (z : ℕ) → z < l.z → Associates l.t l.x l.y z
