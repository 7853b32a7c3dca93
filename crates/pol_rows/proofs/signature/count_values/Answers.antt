use Rattle.std.proofs.Common.{arith, sym, ◌∙◌}
use Rattle.std.proofs.lemmas.Bool.{true≢false}
use Rattle.pol_rows.proofs.SizeLemmas.{bits_more, bit_counts, bit_missing}
use Rattle.pol_rows.proofs.signature.count_values.Goals as goal
use Rattle.pol_rows.proofs.signature.count_values.Goals.{then-has_value, else-has_value}

pub loop-value-preserved : goal.loop-value-preserved
loop-value-preserved c =
    elim c.if-has_value.branch [
      | then-has_value w ↦
          let bit = bit_counts c.args.mask c.loop-value.value (c.has_value.ensures.has.0 w.if-has_value.true) in
          bits_more c.args.mask c.loop-value.value c.loop-value.count _ c.loop-value.invariant (omega (arith, w.count-is, bit))
      | else-has_value w ↦
          let bit = bit_missing c.args.mask c.loop-value.value (λ set. true≢false (sym (c.has_value.ensures.has.1 set) ∙ w.if-has_value.false)) in
          bits_more c.args.mask c.loop-value.value c.loop-value.count _ c.loop-value.invariant (omega (arith, w.count-is, bit))
    ]
