use Rattle.std.proofs.Common.{ℕ, ◌+◌, ◌*◌, ◌%◌, ◌<◌, length, take, sym, ap, ◌∙◌, arith}
use Rattle.std.proofs.lemmas.List.Sums.{sum_by_more}
use Rattle.pol_modp.specs.Combinations.{PartView, weight_at, scope_at, sum_at}
use Rattle.pol_modp.proofs.Modular.{accumulate_times}
use Rattle.pol_modp.specs.Combinations.{no_part}
use Rattle.pol_modp.proofs.sums.sum_at.Goals as goal

pub loop-i-preserved : goal.loop-i-preserved
loop-i-preserved c =
    let inst = c.args.inst.now in
    let v = c.args.v in
    let parts = c.args.combination.now.parts in
    let i = c.loop-i.i in
    let inside : i < length parts = omega (arith, c.loop-i-test.true, c.len-i-end.ensures.parts) in
    let f : PartView → ℕ = λ (part : PartView). part.multiplier * weight_at v (scope_at inst part.constraint) part.coefs in
    let more = sum_by_more f parts i no_part inside in
    let part = c.part-part in
    let weight = c.weight_at-weight.ensures.weight ∙ (ap (λ scope. weight_at v scope c.as_slice.result.now % c.args.d) c.scope.ensures.scope ∙ ap (λ coefs. weight_at v (scope_at inst part.result.now.c) coefs % c.args.d) c.as_slice.ensures.items) in
    accumulate_times c.args.d c.loop-i.sum c.plus_times-sum.result (sum_at inst (take i parts) v) part.result.now.multiplier c.weight_at-weight.result (weight_at v (scope_at inst part.result.now.c) part.result.now.coefs) (sum_at inst (take (i + 1) parts) v)
    c.loop-i.invariant c.plus_times-sum.ensures.sum weight (more ∙ ap (λ t. sum_at inst (take i parts) v + t) (sym (ap f part.ensures.part)))
