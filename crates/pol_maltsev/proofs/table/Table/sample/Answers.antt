use Rattle.std.proofs.Common.{arith, length, ◌<◌}
use Rattle.std.specs.Prelude.{slice_index}
use Rattle.std.proofs.lemmas.Result.{on_ok_weaker}
use Rattle.pol_maltsev.specs.Samples.{IsSpread}
use Rattle.pol_maltsev.proofs.WalkLemmas.{member_tuple}
use Rattle.pol_maltsev.proofs.SampleLemmas.{kept_low, spread_samples, spread_there}
use Rattle.pol_maltsev.proofs.table.Table.sample.Goals as goal

-- a kept member is a tuple
pub bounds-member-p : goal.bounds-member-p
bounds-member-p g c =
    omega (arith, (member_tuple c.args.op.now c.args.self.now c.args.member.now c.requires.0.sound c.requires.1.0.inside).long, c.place-p.ensures.below)

pub spread-requires-clause-member : goal.spread-requires-clause-member
spread-requires-clause-member g c = member_tuple c.args.op.now c.args.self.now c.args.member.now c.requires.0.sound c.requires.1.0.inside

-- with values below the domain
pub has-requires-clause-value : goal.has-requires-clause-value
has-requires-clause-value g c =
    rw (c.domain.ensures.domain, c.place-p.ensures.place) (kept_low c.args.op.now c.args.self.now g.kept c.args.k c.args.member.now c.requires.0 c.requires.1.0)

pub has-requires-clause-kept : goal.has-requires-clause-kept
has-requires-clause-kept g c =
    rw (c.requires.1.1.classes.all_roots, c.place-p.ensures.place) (kept_low c.args.op.now c.args.self.now g.kept c.args.k c.args.member.now c.requires.0 c.requires.1.0)

-- its steps are samples
pub returns-clause-samples : goal.returns-clause-samples
returns-clause-samples g c =
    on_ok_weaker c.spread.result
    (λ (s : IsSpread c.args.op.now c.args.self.now c.place-p.result c.args.member.now c.args.samples.now c.spread.new.samples).
    spread_samples c.args.op.now c.args.self.now g.kept c.args.k c.args.member.now c.args.samples.now c.spread.new.samples c.requires.0 c.requires.1.0 c.requires.1.1 (rw c.place-p.ensures.place at s))
    c.spread.ensures.spread

-- one of them for its own value
pub returns-clause-there : goal.returns-clause-there
returns-clause-there g c =
    on_ok_weaker c.spread.result
    (λ (s : IsSpread c.args.op.now c.args.self.now c.place-p.result c.args.member.now c.args.samples.now c.spread.new.samples).
    spread_there c.args.op.now c.args.self.now g.kept c.args.k c.args.member.now c.args.samples.now c.spread.new.samples c.requires.0 c.requires.1.0 (rw c.place-p.ensures.place at s))
    c.spread.ensures.spread
