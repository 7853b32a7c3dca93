use Rattle.std.proofs.Common.{ℕ, ◌<◌}
use Rattle.std.specs.Prelude.{slice_index, ◌≢◌}
use Rattle.pol_maltsev.proofs.table.Table.position.Given as goal

-- it is at none of the positions before
abbrev pub invariant-loop-k : goal.invariant-loop-k
invariant-loop-k l = (i : ℕ) → i < l.k → slice_index l.self.order i ≢ l.p
