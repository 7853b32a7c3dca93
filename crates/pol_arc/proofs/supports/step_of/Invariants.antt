use Rattle.pol_nogood.specs.Logs.{value_case, nogood_at}
use Rattle.std.proofs.Common.{◌≡◌, ℕ, ◌<◌}
use Rattle.pol_arc.proofs.supports.step_of.Given as goal

abbrev pub invariant-loop-s : goal.invariant-loop-s
invariant-loop-s l = (r : ℕ) → r < l.s → nogood_at l.log r ≡ value_case l.x l.a → ⊥
