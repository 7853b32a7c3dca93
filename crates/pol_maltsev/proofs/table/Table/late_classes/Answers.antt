use Rattle.pol_maltsev.proofs.SampleLemmas.{no_samples_are}
use Rattle.pol_maltsev.proofs.RestrictedPlaces.{late_values}
use Rattle.pol_maltsev.proofs.table.Table.late_classes.Goals as goal

-- at first no value has a sample
pub sample_before-requires : goal.sample_before-requires
sample_before-requires g c =
    (c.requires.0, (c.requires.1, no_samples_are c.args.op.now c.args.self.now g.kept c.args.k c.in_ok-samples.samples (rw (c.domain.ensures.domain, c.width.ensures.width) at c.in_ok-samples.ensures.none)))

-- at last all that kept members have
pub returns : goal.returns
returns g c = record {
  late = record {
    samples = c.in_ok-close.ensures.samples.samples;
    values = late_values c.args.op.now c.args.self.now g.kept c.args.k c.args.places.now c.sample_before.new.samples c.close.new.samples c.requires.0.sound.same_domain
        c.in_ok-sample_before.ensures.rows c.in_ok-close.ensures.samples c.in_ok-close.ensures.closed;
  };
}
