use Rattle.std.proofs.Common.{ℕ, ◌<◌}
use Rattle.pol_maltsev.specs.Views.{root_in}
use Rattle.pol_maltsev.proofs.table.Table.first_row.Given as goal

-- no member has one of the values before
abbrev pub invariant-loop-a : goal.invariant-loop-a
invariant-loop-a l = (b : ℕ) → b < l.a → ¬ (root_in l.self 0 b < l.self.domain)
