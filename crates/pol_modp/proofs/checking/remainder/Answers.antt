use Rattle.std.proofs.Common.{◌%◌, ◌≤◌, ◌<◌, eqb, length, sym, ap, ◌∙◌, arith}
use Rattle.std.specs.List.{list_all, range_with_len}
use Rattle.std.proofs.lemmas.Bool.{eq-eqb, ne_eqb}
use Rattle.std.proofs.lemmas.List.{take_all}
use Rattle.std.proofs.lemmas.List.FromFn.{length-range_with_len}
use Rattle.pol_modp.specs.Combinations.{sum_at}
use Rattle.pol_modp.specs.CombinationFaults.{is_zero_at}
use Rattle.pol_modp.proofs.FirstFailing.{first_failing-at, first_failing-all}
use Rattle.pol_modp.proofs.FirstFailing.{all-next}
use Rattle.pol_modp.proofs.CombinationTests.{number_at}
use Rattle.pol_modp.proofs.checking.remainder.Goals as goal

pub returns-then-sum_at-ne0 : goal.returns-then-sum_at-ne0
returns-then-sum_at-ne0 c =
    let inst = c.args.inst.now in
    let parts = c.args.combination.now.parts in
    let n = length inst.variables in
    let v = c.loop-v.v in
    let test = is_zero_at c.args.lang.now inst parts in
    let low : v < n = omega (arith, c.loop-v-test.true, c.variables-v-end.ensures.variables) in
    let size = c.size-d.ensures.size ∙ c.domain.ensures.domain in
    let sum = ap (λ d. sum_at inst parts v % d) (sym size) ∙ sym c.sum_at.ensures.sum in
    let fails = ap test (number_at n v low) ∙ (ap (λ s. eqb s 0) sum ∙ ne_eqb _ 0 c.if-sum_at-ne0.true) in
    record { first = sym (first_failing-at test (range_with_len 0 n) v 0 (omega (arith, low, length-range_with_len 0 n)) c.loop-v.invariant fails) }

pub loop-v-preserved : goal.loop-v-preserved
loop-v-preserved c =
    let inst = c.args.inst.now in
    let parts = c.args.combination.now.parts in
    let n = length inst.variables in
    let v = c.loop-v.v in
    let test = is_zero_at c.args.lang.now inst parts in
    let low : v < n = omega (arith, c.loop-v-test.true, c.variables-v-end.ensures.variables) in
    let size = c.size-d.ensures.size ∙ c.domain.ensures.domain in
    let sum = ap (λ d. sum_at inst parts v % d) (sym size) ∙ sym c.sum_at.ensures.sum in
    let passes = ap test (number_at n v low) ∙ (ap (λ s. eqb s 0) sum ∙ eq-eqb _ 0 c.if-sum_at-ne0.false) in
    all-next test (range_with_len 0 n) v 0 (omega (arith, low, length-range_with_len 0 n)) c.loop-v.invariant passes

pub returns : goal.returns
returns c =
    let n = length c.args.inst.now.variables in
    let test = is_zero_at c.args.lang.now c.args.inst.now c.args.combination.now.parts in
    let all : length (range_with_len 0 n) ≤ c.loop-v.v = omega (arith, c.loop-v-test.false, c.variables-v-end.ensures.variables, length-range_with_len 0 n) in
    record { first = sym (first_failing-all test (range_with_len 0 n) (sym (ap (list_all test) (take_all c.loop-v.v (range_with_len 0 n) all)) ∙ c.loop-v.invariant)) }
