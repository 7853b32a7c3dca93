use Rattle.std.proofs.Common.{ℕ, ◌+◌, ◌*◌, ◌<◌, length, take, sym, ap, ◌∙◌, arith}
use Rattle.std.proofs.lemmas.List.Sums.{sum_by_more}
use Rattle.pol_modp.specs.Combinations.{PartView, sum_right}
use Rattle.pol_modp.proofs.Modular.{accumulate}
use Rattle.pol_modp.specs.Combinations.{no_part}
use Rattle.pol_modp.proofs.sums.sum_right.Goals as goal

pub loop-i-preserved : goal.loop-i-preserved
loop-i-preserved c =
    let parts = c.args.combination.now.parts in
    let i = c.loop-i.i in
    let inside : i < length parts = omega (arith, c.loop-i-test.true, c.len-i-end.ensures.parts) in
    let f : PartView → ℕ = λ (part : PartView). part.multiplier * part.right in
    let more = sum_by_more f parts i no_part inside in
    let part = c.part-part in
    accumulate c.args.d c.loop-i.sum c.plus_times-sum.result (sum_right (take i parts)) (part.result.now.multiplier * part.result.now.right) (sum_right (take (i + 1) parts))
    c.loop-i.invariant c.plus_times-sum.ensures.sum (more ∙ ap (λ t. sum_right (take i parts) + t) (sym (ap f part.ensures.part)))
