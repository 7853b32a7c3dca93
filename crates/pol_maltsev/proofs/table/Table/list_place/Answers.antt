use Rattle.std.proofs.Common.{◌<◌, ◌∙◌, sym, arith}
use Rattle.std.proofs.lemmas.Bool.{false≢true}
use Rattle.pol_maltsev.proofs.ListingLemmas.{before_more, before_same, before_room}
use Rattle.pol_maltsev.proofs.table.Table.list_place.Goals as goal
use Rattle.pol_maltsev.proofs.table.Table.list_place.Goals.{then-same+in_ok-push, else-same}

-- there is room for one more
pub push-requires-clause-room : goal.push-requires-clause-room
push-requires-clause-room c =
    before_room c.args.self.now c.args.p c.loop-a.a c.loop-a.rows c.domain.ensures.view c.requires.place
    (omega (arith, c.loop-a-test.true, c.size-a-end.ensures.size, c.domain.ensures.domain)) c.loop-a.invariant

-- one value more
pub loop-a-preserved : goal.loop-a-preserved
loop-a-preserved c = elim c.if-same.branch [
  | then-same+in_ok-push w ↦
      before_more c.args.self.now c.args.p c.loop-a.a c.loop-a.rows c.if-same.rows c.requires.place low (sym c.same.ensures.test ∙ w.if-same.true) (c.same.ensures.same.0 w.if-same.true) c.loop-a.invariant
      (rw w.row.ensures.row at (w.rows-is ∙ w.in_ok-push.ensures.ok))
  | else-same w ↦
      rw w.rows-is
      (before_same c.args.self.now c.args.p c.loop-a.a c.loop-a.rows (sym c.same.ensures.test ∙ w.if-same.false) (λ h. false≢true (sym w.if-same.false ∙ c.same.ensures.same.1 h)) c.loop-a.invariant)
]
  where
    low : c.loop-a.a < c.args.self.now.domain
    low = omega (arith, c.loop-a-test.true, c.size-a-end.ensures.size, c.domain.ensures.domain)
