use Rattle.std.proofs.Common.{ℕ, ◌<◌}
use Rattle.std.specs.Prelude.{slice_index}
use Rattle.pol_maltsev.specs.Samples.{AreMoreSamples, SampleRows, listed_at}
use Rattle.pol_maltsev.proofs.table.Table.sample_before.Given as goal

abbrev pub ghost-sample_rows : goal.ghost-sample_rows
ghost-sample_rows g a = g.kept

-- the rows of the places before are added
abbrev pub invariant-loop-i : goal.invariant-loop-i
invariant-loop-i g l = record {
  samples : AreMoreSamples l.op l.self g.kept l.k l.initial.samples l.samples;
  rows : (h : ℕ) → h < l.i → SampleRows l.self l.k (listed_at l.places (slice_index l.self.order h)) l.samples;
}
