use Rattle.std.proofs.Common.{◌≡◌, ◌<◌, ◌↔◌, sym, ◌∙◌, arith, IsTrue}
use Rattle.std.proofs.lemmas.Bool.{false≢true}
use Rattle.std.specs.Prelude.{slice_index, min}
use Rattle.pol_maltsev.specs.Tables.{SameRoot}
use Rattle.pol_maltsev.specs.Swaps.{led}
use Rattle.pol_maltsev.specs.Views.{sides_at}
use Rattle.pol_maltsev.proofs.SwapTables.{least_none, least_more, least_stays, least_led}
use Rattle.pol_maltsev.proofs.table.Table.early_root.Goals as goal
use Rattle.pol_maltsev.proofs.table.Table.early_root.Goals.{then-same, else-same}

-- at first the root of the own class
pub loop-q-init : goal.loop-q-init
loop-q-init c =
    let root : c.root-least.result ≡ (sides_at c.args.self.now c.args.k).cy c.args.c = cc (c.root-least.ensures.root, c.place-y.ensures.place) in
    rw root (least_none c.args.op.now c.args.k c.args.c c.args.self.now c.requires.sound c.requires.position c.requires.value c.requires.present)

-- one value more
pub loop-q-preserved : goal.loop-q-preserved
loop-q-preserved c = elim c.if-same.branch [
  | then-same w ↦
      let root : c.if-same.least ≡ min c.loop-q.least ((sides_at c.args.self.now c.args.k).cy (led c.args.op.now (sides_at c.args.self.now c.args.k) c.args.c (slice_index ((sides_at c.args.self.now c.args.k).ry c.args.c) (sides_at c.args.self.now c.args.k).x) c.loop-q.q)) =
      cc (w.least-is, w.min-least.ensures, w.root.ensures.root, w.led.ensures.led, c.place-y.ensures.place, c.place-x.ensures.place, c.row.ensures.row) in
      rw root (least_more c.args.op.now (sides_at c.args.self.now c.args.k) c.args.c c.loop-q.q c.loop-q.least low (may.0 w.if-same.true) c.loop-q.invariant)
  | else-same w ↦
      rw w.least-is (least_stays c.args.op.now (sides_at c.args.self.now c.args.k) c.args.c c.loop-q.q c.loop-q.least (λ h. false≢true (sym w.if-same.false ∙ may.1 h)) c.loop-q.invariant)
]
  where
    low : c.loop-q.q < c.args.op.now.domain
    low = omega (arith, c.loop-q-test.true, c.size-q-end.ensures.size, c.domain.ensures.domain, c.requires.sound.same_domain)

    may : IsTrue c.same.result ↔ SameRoot c.args.op.now.domain (sides_at c.args.self.now c.args.k).cx (slice_index ((sides_at c.args.self.now c.args.k).ry c.args.c) (sides_at c.args.self.now c.args.k).x) c.loop-q.q
    may = rw (c.row.ensures.row, c.place-y.ensures.place, c.place-x.ensures.place, c.requires.sound.same_domain) at c.same.ensures.same

-- all values
pub returns : goal.returns
returns c =
    let end : c.loop-q.q ≡ c.args.self.now.domain = omega (arith, c.loop-q-test.false, c.loop-q.auto, c.size-q-end.ensures.size, c.domain.ensures.domain) in
    record { root = least_led c.args.op.now c.args.k c.args.c c.loop-q.least c.args.self.now c.requires.sound c.requires.position c.requires.value c.requires.present (rw end at c.loop-q.invariant) }
