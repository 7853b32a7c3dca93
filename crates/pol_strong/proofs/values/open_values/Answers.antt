use Rattle.std.proofs.Common.{◌≡◌, ◌<◌, ◌∙◌, ℕ, List, length, All, AllPairs, ap, sym, subst, arith}
use Rattle.pol_nogood.specs.Nogoods.{Pair}
use Rattle.pol_nogood.specs.Logs.{StepView, no_step, nogood_at}
use Rattle.pol_strong.specs.Contradictions.{Completes, IsIndifferent, AreOpenNext}
use Rattle.pol_strong.proofs.OpenMasks.{open_at_first, open_same, open_without}
use Rattle.pol_strong.proofs.values.open_values.Goals.{in-Some, in_default}
use Rattle.pol_strong.proofs.values.open_values.Goals as goal

pub loop-s-init : goal.loop-s-init
loop-s-init c = rw c.full_mask-left.ensures.all (open_at_first c.args.d c.args.log.now c.args.values.now)

pub completing_value-requires : goal.completing_value-requires
completing_value-requires c =
    let nogood_is : nogood_at c.args.log.now c.loop-s.s ≡ c.nogood.result.now
    = sym (c.nogood.ensures.nogood ∙ ap (λ (t : StepView). t.nogood) c.step.ensures.step) in
    let known : c.loop-s.s < length c.args.log.now = omega (arith, c.loop-s-test.true, c.len-s-end.ensures.steps) in
    record {
      ascending = subst (λ (nogood : List Pair). AllPairs (λ p q. p.variable < q.variable) nogood) nogood_is
          (c.requires.ascending c.loop-s.s no_step known);
    }

pub without-left-requires : goal.without-left-requires
without-left-requires c =
    let nogood_is : nogood_at c.args.log.now c.loop-s.s ≡ c.nogood.result.now
    = sym (c.nogood.ensures.nogood ∙ ap (λ (t : StepView). t.nogood) c.step.ensures.step) in
    let known : c.loop-s.s < length c.args.log.now = omega (arith, c.loop-s-test.true, c.len-s-end.ensures.steps) in
    let below : All (λ p. p.value < 5) c.nogood.result.now
    = subst (λ (nogood : List Pair). All (λ p. p.value < 5) nogood) nogood_is
    (c.requires.below c.loop-s.s no_step known) in
    let value : c.in-Some.value < 5 = c.in-Some.ensures.value 5 below in
    record { value = omega (arith, value) }

pub loop-s-preserved : goal.loop-s-preserved
loop-s-preserved c =
    let values : List ℕ = c.args.values.now in
    let nogood_is : c.nogood.result.now ≡ nogood_at c.args.log.now c.loop-s.s
    = c.nogood.ensures.nogood ∙ ap (λ (t : StepView). t.nogood) c.step.ensures.step in
    let known : c.loop-s.s < length c.args.log.now = omega (arith, c.loop-s-test.true, c.len-s-end.ensures.steps) in
    elim c.match-completing_value.branch [
      | in-Some w ↦ rw w.left-is
          (open_without c.args.d c.args.log.now values c.loop-s.s c.loop-s.left c.loop-s.invariant w.in-Some.value
          w.without-left.result
          (subst (λ (nogood : List Pair). Completes nogood values w.in-Some.value) nogood_is
          w.in-Some.ensures.completes)
          w.without-left.ensures.others)
      | in_default w ↦ rw w.left-is
          (open_same c.args.d c.args.log.now values c.loop-s.s c.loop-s.left c.loop-s.invariant known c.requires.avoids
          (subst (λ (nogood : List Pair). IsIndifferent nogood values) nogood_is w.in_default.ensures.indifferent))
    ]

pub returns : goal.returns
returns c =
    let done : c.loop-s.s ≡ length c.args.log.now
    = omega (arith, c.loop-s.auto.s-end, c.loop-s-test.false, c.len-s-end.ensures.steps) in
    record {
      next = subst (λ (n : ℕ). AreOpenNext c.args.d c.args.log.now n c.args.values.now c.loop-s.left) done
          c.loop-s.invariant;
    }
