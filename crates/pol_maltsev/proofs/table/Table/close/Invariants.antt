use Rattle.pol_maltsev.specs.Samples.{AreMoreSamples}
use Rattle.pol_maltsev.proofs.SampleLemmas.{lacking}
use Rattle.pol_maltsev.proofs.table.Table.close.Given as goal

abbrev pub ghost-sample : goal.ghost-sample
ghost-sample g a = g.kept

-- samples, and maybe more
abbrev pub invariant-closing : goal.invariant-closing
invariant-closing g l = AreMoreSamples l.op l.self g.kept l.k l.initial.samples l.samples

-- the values without one
abbrev pub decreases-closing : goal.decreases-closing
decreases-closing g l = lacking l.self.domain l.samples
