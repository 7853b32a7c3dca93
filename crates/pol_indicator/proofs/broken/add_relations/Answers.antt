use Rattle.std.proofs.Common.{◌≡◌, arith, sym, ◌∙◌, subst, Bool, true, false}
use Rattle.std.specs.Bool.{OnFalse}
use Rattle.std.specs.Prelude.{IsTrue}
use Rattle.pol_optable.specs.Operations.{IsPolymorphism}
use Rattle.pol_indicator.proofs.BrokenLemmas.{adds_trans, kept_more}
use Rattle.pol_indicator.proofs.broken.add_relations.Goals.{then-kept, else-kept}
use Rattle.pol_indicator.proofs.broken.add_relations.Goals as goal

refuted : (b : Bool) → b ≡ false → ¬ IsTrue b
refuted true e h = cc
refuted false e h = cc

pub loop-relation-preserved : goal.loop-relation-preserved
loop-relation-preserved g c =
    let f = c.args.table.now in
    let lang = c.args.rows.now in
    let before = c.loop-relation.invariant in
    let part = c.in_ok-part_kept.ensures in
    record {
      from = part.from;
      begun = part.begun;
      added = adds_trans lang g.row.K c.args.pool.now c.loop-relation.pool c.add_part.new.pool before.added part.added;
      kept = elim c.if-kept.branch [
        | then-kept w ↦ λ held. kept_more f lang c.args.first c.loop-relation.relation (before.kept w.if-kept.true) (part.kept (sym w.kept-is ∙ held))
        | else-kept w ↦ λ held. absurd (refuted c.if-kept.kept (w.kept-is ∙ w.if-kept.false) held)
      ];
      broken = elim c.if-kept.branch [
        | then-kept w ↦ subst (λ b. OnFalse b (¬ IsPolymorphism f lang)) (sym w.kept-is) part.broken
        | else-kept w ↦ subst (λ b. OnFalse b (¬ IsPolymorphism f lang)) (sym w.kept-is) before.broken
      ];
    }

pub returns-clause-kept : goal.returns-clause-kept
returns-clause-kept g c held relation low high = c.loop-relation.invariant.kept held relation low (omega (arith, high, c.loop-relation-test.false))
