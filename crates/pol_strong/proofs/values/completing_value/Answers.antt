use Rattle.std.proofs.Common.{◌≡◌, ◌-◌, ℕ, List, Some, slice_get, length, subst, arith}
use Rattle.pol_nogood.specs.Nogoods.{Pair}
use Rattle.pol_strong.proofs.GivenPairs.{indifferent_last, indifferent_other, below_last, completes_last, last_below, held_more}
use Rattle.pol_strong.proofs.values.completing_value.Goals as goal

-- the pair that was read is the last
last_read : (nogood : List Pair) (n : ℕ) (p : Pair) → n ≡ length nogood → slice_get nogood (n - 1) ≡ Some p
    → slice_get nogood (length nogood - 1) ≡ Some p
last_read nogood n p counted read = subst (λ (k : ℕ). slice_get nogood (k - 1) ≡ Some p) counted read

pub returns-then-variable-values-clause-indifferent : goal.returns-then-variable-values-clause-indifferent
returns-then-variable-values-clause-indifferent c =
    indifferent_last c.args.nogood.now c.requires.ascending _
    (last_read c.args.nogood.now c.len-last.result _ c.len-last.ensures.pairs c.pair-variable.ensures.pair)
    c.args.values.now c.if-variable-values.true

pub bounds-values-earlier : goal.bounds-values-earlier
bounds-values-earlier c =
    let less = below_last c.args.nogood.now c.requires.ascending _
    (last_read c.args.nogood.now c.len-last.result _ c.len-last.ensures.pairs c.pair-variable.ensures.pair)
    c.args.values.now c.loop-i.i _ c.pair-earlier.ensures.pair
    (omega (arith, c.loop-i-test.true, c.len-last.ensures.pairs)) in
    omega (arith, less, c.if-variable-values.false)

pub returns-then-values-earlier-clause-indifferent : goal.returns-then-values-earlier-clause-indifferent
returns-then-values-earlier-clause-indifferent c =
    indifferent_other c.args.nogood.now c.requires.ascending _
    (last_read c.args.nogood.now c.len-last.result _ c.len-last.ensures.pairs c.pair-variable.ensures.pair)
    c.args.values.now c.if-variable-values.false c.loop-i.i _ c.pair-earlier.ensures.pair
    (omega (arith, c.loop-i-test.true, c.len-last.ensures.pairs)) c.if-values-earlier.true

pub loop-i-preserved : goal.loop-i-preserved
loop-i-preserved c =
    held_more c.args.values.now c.args.nogood.now c.loop-i.i _ c.pair-earlier.ensures.pair
    c.if-values-earlier.false c.loop-i.invariant

pub returns-clause-completes : goal.returns-clause-completes
returns-clause-completes c =
    completes_last c.args.nogood.now c.requires.ascending _
    (last_read c.args.nogood.now c.len-last.result _ c.len-last.ensures.pairs c.pair-variable.ensures.pair)
    c.args.values.now c.if-variable-values.false
    (let done : c.loop-i.i ≡ length c.args.nogood.now - 1 = omega
    (arith, c.loop-i.auto.i-end, c.loop-i-test.false, c.len-last.ensures.pairs) in
    rw done at c.loop-i.invariant)

pub returns-clause-value : goal.returns-clause-value
returns-clause-value c =
    last_below c.args.nogood.now c.requires.ascending _
    (last_read c.args.nogood.now c.len-last.result _ c.len-last.ensures.pairs c.pair-variable.ensures.pair)
    c.args.values.now
