use Rattle.std.proofs.Common.{◌≡◌, ◌∙◌, sym}
use Rattle.pol_maltsev.proofs.SampleLemmas.{IsMissedMember, missed_member, missed_less, closed_all}
use Rattle.pol_maltsev.proofs.table.Table.close.Goals as goal

-- what the operation makes of samples is kept
pub sample-requires : goal.sample-requires
sample-requires g c =
    let f = c.args.op.now in
    let v = c.args.self.now in
    let member : IsMissedMember f v g.kept c.args.k c.in-Some.x c.in-Some.y c.in-Some.z c.as_slice.result.now = rw (c.as_slice.ensures.values, c.in_ok-image.ensures.image)
    (missed_member f v g.kept c.args.k c.in-Some.x c.in-Some.y c.in-Some.z c.closing.samples c.row.result.now c.row-in-closing.result.now c.row-in-closing-2.result.now c.requires.0 c.closing.invariant.samples
    c.in-Some.ensures.missing c.row.ensures.row c.row-in-closing.ensures.row c.row-in-closing-2.ensures.row) in
    (c.requires.0, (member.inside, c.closing.invariant.samples))

-- and has a value that was missing
pub closing-smaller : goal.closing-smaller
closing-smaller g c =
    let f = c.args.op.now in
    let v = c.args.self.now in
    let member : IsMissedMember f v g.kept c.args.k c.in-Some.x c.in-Some.y c.in-Some.z c.as_slice.result.now = rw (c.as_slice.ensures.values, c.in_ok-image.ensures.image)
    (missed_member f v g.kept c.args.k c.in-Some.x c.in-Some.y c.in-Some.z c.closing.samples c.row.result.now c.row-in-closing.result.now c.row-in-closing-2.result.now c.requires.0 c.closing.invariant.samples
    c.in-Some.ensures.missing c.row.ensures.row c.row-in-closing.ensures.row c.row-in-closing-2.ensures.row) in
    missed_less f v g.kept c.args.k c.in-Some.x c.in-Some.y c.in-Some.z c.as_slice.result.now c.closing.samples c.sample.new.samples c.requires.0 c.in-Some.ensures.missing member
    c.in_ok-sample.ensures.samples c.in_ok-sample.ensures.there

-- all have samples
pub returns-clause-closed : goal.returns-clause-closed
returns-clause-closed g c =
    closed_all c.args.op.now c.args.self.now g.kept c.args.k c.closing.samples c.requires.0 c.closing.invariant.samples (rw c.place.ensures.place at (c.has_all.ensures.all.0 c.closing-test.false))
