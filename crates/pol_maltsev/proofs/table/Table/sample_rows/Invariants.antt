use Rattle.std.proofs.Common.{ℕ, ◌<◌}
use Rattle.std.specs.Prelude.{slice_index}
use Rattle.pol_maltsev.specs.Views.{row_of}
use Rattle.pol_maltsev.specs.Samples.{HasSample, AreMoreSamples}
use Rattle.pol_maltsev.proofs.table.Table.sample_rows.Given as goal

abbrev pub ghost-sample : goal.ghost-sample
ghost-sample g a = g.kept

-- the rows of the values before are added
abbrev pub invariant-loop-a : goal.invariant-loop-a
invariant-loop-a g l = record {
  samples : AreMoreSamples l.op l.self g.kept l.k l.initial.samples l.samples;
  rows : (b : ℕ) → b < l.a → HasSample l.self.domain l.classes b → HasSample l.self.domain l.samples (slice_index (row_of l.classes b) (slice_index l.self.order l.k));
}
