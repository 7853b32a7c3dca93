use Rattle.std.proofs.Common.{ℕ, ◌<◌, Contains}
use Rattle.pol_relation.specs.Instances.{read_at}
use Rattle.pol_maltsev.specs.Views.{row_in, root_in}
use Rattle.pol_maltsev.proofs.table.Table.reads_only_at.Given as goal

-- the rows of the values before do
abbrev pub invariant-loop-a : goal.invariant-loop-a
invariant-loop-a l = (b : ℕ) → b < l.a → root_in l.self l.p b < l.self.domain → Contains l.r.rows (read_at (row_in l.self l.p b) l.scope)
