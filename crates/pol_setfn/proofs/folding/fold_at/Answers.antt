use Rattle.std.proofs.Common.{◌≡◌, Bool, false, ap, ◌∙◌, arith}
use Rattle.std.specs.Prelude.{IsTrue}
use Rattle.std.specs.Option.{unwrap_or}
use Rattle.pol_setfn.proofs.FoldingLemmas.{folding_take, folding_skip, folding_all}
use Rattle.pol_setfn.proofs.folding.fold_at.Goals as goal
use Rattle.pol_setfn.proofs.folding.fold_at.Goals.{then-has_value, else-has_value}

refuted : (b : Bool) → b ≡ false → ¬ IsTrue b
refuted b is_false is_true = cc

pub loop-value-preserved : goal.loop-value-preserved
loop-value-preserved c =
    let f = c.args.op.now in
    let before = c.loop-value.invariant in
    elim c.if-has_value.branch [
      | then-has_value w ↦ record {
        folding = rw w.folded-is (folding_take f c.args.mask c.loop-value.value c.loop-value.folded w.with_value.result before.folding (c.has_value.ensures.has.0 w.if-has_value.true) w.with_value.ensures.first w.with_value.ensures.next);
        below = rw w.folded-is w.with_value.ensures.below;
      }
      | else-has_value w ↦ record {
        folding = rw w.folded-is (folding_skip f c.args.mask c.loop-value.value c.loop-value.folded before.folding (λ set. refuted c.has_value.result w.if-has_value.false (c.has_value.ensures.has.1 set)));
        below = rw w.folded-is before.below;
      }
    ]

pub returns-clause-fold : goal.returns-clause-fold
returns-clause-fold c =
    let all : c.loop-value.value ≡ c.args.op.now.domain = omega (arith, c.loop-value-test.false, c.loop-value.auto.value-end, c.size-value-end.ensures.size, c.domain-d.ensures.domain) in
    folding_all c.args.op.now c.domain-d.ensures.table c.requires.semilattice c.args.mask c.requires.within c.loop-value.value c.loop-value.folded c.unwrap_or.result all c.requires.some c.loop-value.invariant.folding
    (λ a same. c.unwrap_or.ensures ∙ ap (λ folded. unwrap_or folded 0) same)
