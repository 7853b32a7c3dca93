use Rattle.std.proofs.Common.{◌≡◌, sym, ◌∙◌, arith, ap, IsTrue, ◌↔◌}
use Rattle.std.proofs.lemmas.Bool.{false≢true}
use Rattle.std.specs.Prelude.{slice_index}
use Rattle.pol_maltsev.specs.Tables.{SameRoot, step}
use Rattle.pol_maltsev.specs.Views.{root_in, row_in}
use Rattle.pol_maltsev.specs.Samples.{set_value}
use Rattle.pol_maltsev.proofs.SampleLemmas.{spread_none, spread_more, spread_stays}
use Rattle.pol_maltsev.proofs.table.Table.spread.Goals as goal
use Rattle.pol_maltsev.proofs.table.Table.spread.Goals.{then-same+in_ok-row, else-same}

-- one value more
pub loop-c-preserved : goal.loop-c-preserved
loop-c-preserved c = elim c.if-same.branch [
  | then-same+in_ok-row w ↦
      let made : c.if-same.samples ≡ set_value c.loop-c.samples c.loop-c.c w.in_ok-row.row (root_in c.args.self.now c.args.p c.loop-c.c) =
      w.samples-is ∙ w.set.ensures.set ∙ ap (set_value c.loop-c.samples c.loop-c.c w.in_ok-row.row) w.root.ensures.root in
      rw made
      (spread_more c.args.op.now c.args.self.now c.args.p c.loop-c.c c.args.member.now w.in_ok-row.row c.args.samples.now c.loop-c.samples
      (omega (arith, c.loop-c-test.true, c.size-c-end.ensures.size, c.domain.ensures.domain)) c.loop-c.invariant (c.same.ensures.same.0 w.if-same.true) w.in_ok-row.ensures.tuple w.in_ok-row.ensures.step
      (rw w.root.ensures.root at w.root.ensures.most))
  | else-same w ↦
      rw w.samples-is
      (spread_stays c.args.op.now c.args.self.now c.args.p c.loop-c.c c.args.member.now c.args.samples.now c.loop-c.samples c.loop-c.invariant
      (λ h. false≢true (sym w.if-same.false ∙ c.same.ensures.same.1 h)))
]
