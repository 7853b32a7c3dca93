use Rattle.std.proofs.Common.{◌≡◌, refl, arith, length}
use Rattle.std.proofs.lemmas.Bool.{false≢true}
use Rattle.std.specs.Prelude.{slice_index}
use Rattle.pol_maltsev.specs.Tables.{step, SameRoot}
use Rattle.pol_maltsev.specs.Views.{row_in, root_in}
use Rattle.pol_maltsev.proofs.WalkLemmas.{walk_goes_on, walk_stops}
use Rattle.pol_maltsev.proofs.table.Table.walk.Goals as goal

-- the values stand in different classes
pub returns-then-not-same-clause-none : goal.returns-then-not-same-clause-none
returns-then-not-same-clause-none c t h =
    walk_stops c.args.op.now c.args.self.now c.args.word.now c.loop-k.k (length c.args.word.now) c.loop-k.member t c.requires.sound
    (omega (arith, c.loop-k-test.true, c.requires.few)) (omega (arith, c.loop-k-test.true)) c.loop-k.invariant apart h
  where
    apart : ¬ SameRoot c.args.self.now.domain (root_in c.args.self.now (slice_index c.args.self.now.order c.loop-k.k)) (slice_index c.loop-k.member (slice_index c.args.self.now.order c.loop-k.k)) (slice_index c.args.word.now c.loop-k.k)
    apart same = false≢true ((rw (c.as_slice.ensures.values, c.place-p.ensures.place) at c.if-not-same.ensures.same).1 same)

-- one value more
pub loop-k-preserved : goal.loop-k-preserved
loop-k-preserved c =
    rw moved
    (walk_goes_on c.args.op.now c.args.self.now c.args.word.now c.loop-k.k c.loop-k.member c.requires.sound (omega (arith, c.loop-k-test.true, c.requires.few)) c.loop-k.invariant
    (c.requires.below c.loop-k.k 0 (omega (arith, c.loop-k-test.true))) together)
  where
    together : SameRoot c.args.self.now.domain (root_in c.args.self.now (slice_index c.args.self.now.order c.loop-k.k)) (slice_index c.loop-k.member (slice_index c.args.self.now.order c.loop-k.k)) (slice_index c.args.word.now c.loop-k.k)
    together = (rw (c.as_slice.ensures.values, c.place-p.ensures.place) at c.if-not-same.ensures.same).0 refl

    moved : c.in_ok-member-2.member ≡ step c.args.op.now c.args.self.now.width (slice_index c.args.self.now.order c.loop-k.k) (row_in c.args.self.now (slice_index c.args.self.now.order c.loop-k.k)) c.loop-k.member (slice_index c.args.word.now c.loop-k.k)
    moved = cc (c.in_ok-member-2.ensures.step, c.place-p.ensures.place, c.as_slice-in-loop-k.ensures.values)
