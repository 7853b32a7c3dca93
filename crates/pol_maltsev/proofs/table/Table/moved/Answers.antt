use Rattle.std.proofs.Common.{◌≡◌, arith}
use Rattle.std.specs.Prelude.{slice_index}
use Rattle.std.proofs.lemmas.Bool.{false≢true}
use Rattle.pol_maltsev.specs.Tables.{SameRoot, step}
use Rattle.pol_maltsev.specs.Views.{row_in, root_in}
use Rattle.pol_maltsev.proofs.WalkLemmas.{member_tuple}
use Rattle.pol_maltsev.proofs.ReachLemmas.{value_at_place, moved_is, moved_none}
use Rattle.pol_maltsev.proofs.table.Table.moved.Goals as goal

-- a member is a tuple
pub bounds-t-p : goal.bounds-t-p
bounds-t-p c = omega (arith, c.place-p.ensures.below, (member_tuple c.args.op.now c.args.self.now c.args.t.now c.requires.sound c.requires.member).long)

pub same-requires-clause-first : goal.same-requires-clause-first
same-requires-clause-first c = value_at_place c.args.op.now c.args.self.now c.place-p.result c.args.t.now c.requires.sound c.place-p.ensures.below c.requires.member

pub step-requires-clause-tuple : goal.step-requires-clause-tuple
step-requires-clause-tuple c = member_tuple c.args.op.now c.args.self.now c.args.t.now c.requires.sound c.requires.member

-- both values are in one class
pub returns-clause-moved : goal.returns-clause-moved
returns-clause-moved c =
    let v = c.args.self.now in
    let p = slice_index v.order c.args.k in
    let same : SameRoot v.domain (root_in v p) (slice_index c.args.t.now p) c.args.v = (rw c.place-p.ensures.place at c.same.ensures.same).0 c.if-not-same.false in
    let moved : c.in_ok-step.field-0 ≡ step c.args.op.now v.width p (row_in v p) c.args.t.now c.args.v = rw c.place-p.ensures.place at c.in_ok-step.ensures.step in
    rw moved (moved_is c.args.op.now v c.args.k c.args.v c.args.t.now c.requires.sound c.requires.position c.requires.member c.requires.value same)

-- or they are not
pub returns-then-not-same-clause-none : goal.returns-then-not-same-clause-none
returns-then-not-same-clause-none c u =
    let v = c.args.self.now in
    let p = slice_index v.order c.args.k in
    let apart : ¬ SameRoot v.domain (root_in v p) (slice_index c.args.t.now p) c.args.v = λ same. false≢true ((rw c.place-p.ensures.place at c.if-not-same.ensures.same).1 same) in
    moved_none c.args.op.now v c.args.k c.args.v c.args.t.now u c.requires.sound c.requires.position c.requires.member apart
