use Rattle.std.proofs.Common.{sym, ◌∙◌}
use Rattle.std.proofs.lemmas.Bool.{true≢false}
use Rattle.pol_rows.proofs.PairLemmas.{joined_more, joined_same}
use Rattle.pol_rows.proofs.signature.follow_each.Goals as goal
use Rattle.pol_rows.proofs.signature.follow_each.Goals.{then-has_value, else-has_value}

pub loop-value-preserved : goal.loop-value-preserved
loop-value-preserved c =
    elim c.if-has_value.branch [
      | then-has_value w ↦ rw w.followers-is (joined_more _ _ _ _ c.loop-value.invariant c.loop-value-test.true (c.has_value.ensures.has.0 w.if-has_value.true))
      | else-has_value w ↦ rw w.followers-is (joined_same _ _ _ _ c.loop-value.invariant (λ set. true≢false (sym (c.has_value.ensures.has.1 set) ∙ w.if-has_value.false)))
    ]
