use Rattle.std.proofs.Common.{ℕ, ◌<◌}
use Rattle.pol_maltsev.specs.Views.{root_in}
use Rattle.pol_maltsev.specs.Samples.{HasSample}
use Rattle.pol_maltsev.proofs.table.Table.has_all.Given as goal

-- the values before have samples
abbrev pub invariant-loop-a : goal.invariant-loop-a
invariant-loop-a l = (b : ℕ) → b < l.a → root_in l.self l.p b < l.self.domain → HasSample l.self.domain l.samples b
