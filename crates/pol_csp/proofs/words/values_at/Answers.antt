use Rattle.std.proofs.Common.{ℕ, [], get_or, arith, ◌<◌, ◌≡◌, ◌*◌, ◌+◌, ◌^◌, ◌⊎◌, inl, inr}
use Rattle.std.specs.Prelude.{IsBitSet, bit_or, ◌≢◌}
use Rattle.std.proofs.lemmas.Bool.{cases_eq}
use Rattle.pol_base.proofs.BitLemmas.{set_and, set_single, set_or_left, set_or_right}
use Rattle.pol_csp.proofs.Narrowing.{none_set}
use Rattle.pol_csp.proofs.Wording.{with_word, pow_small}
use Rattle.pol_csp.proofs.words.values_at.Goals as goal
use Rattle.pol_csp.proofs.words.values_at.Goals.{then-word-withs-ne0, else-word-withs-ne0}

pub bounds-withs-place : goal.bounds-withs-place
bounds-withs-place c =
    let small = pow_small c.loop-value.value (omega (
      arith,
      c.loop-value-test.true,
      c.loop-value.auto.value-end,
      c.size-size.ensures.size,
      c.size-size.ensures.within.few,
    )) in
    omega (arith, small, c.value_mask-mask.ensures.mask, c.requires.counted, c.requires.place)

value_added : (found v u : ℕ) → u < v + 1 → (u < v → IsBitSet found u) → IsBitSet (bit_or found (2 ^ v)) u
value_added found v u less before = by (cases_eq u v)
  where
    by : (u ≡ v) ⊎ (u ≢ v) → IsBitSet (bit_or found (2 ^ v)) u
    by (inl e) = rw e (set_or_right found (2 ^ v) v (set_single v))
    by (inr ne) = set_or_left found (2 ^ v) u (before (omega arith))

value_left : (found v u : ℕ) → u < v + 1 → (u < v → IsBitSet found u) → (u ≡ v → ⊥) → IsBitSet found u
value_left found v u less before ne = before (omega arith)

pub loop-value-preserved : goal.loop-value-preserved
loop-value-preserved c row h lives less =
    let v = c.loop-value.value in
    let place = c.args.place in
    let u = get_or (get_or c.args.r.now.rows row []) place 0 in
    let small = pow_small v (omega (
      arith,
      c.loop-value-test.true,
      c.loop-value.auto.value-end,
      c.size-size.ensures.size,
      c.size-size.ensures.within.few,
    )) in
    elim c.if-word-withs-ne0.branch [
      | then-word-withs-ne0 w ↦ rw (w.found-is, c.value_mask-mask.ensures.mask)
          (value_added c.loop-value.found v u less (λ before. c.loop-value.invariant row h lives before))
      | else-word-withs-ne0 w ↦ rw w.found-is (value_left c.loop-value.found v u less
          (λ before. c.loop-value.invariant row h lives before)
          (λ e. none_set _ row (rw c.value_mask-mask.ensures.mask at w.if-word-withs-ne0.false)
          (set_and c.args.word (get_or c.args.withs.now (place * 32 + 2 ^ v) 0) row lives
          (with_word c.args.r.now.rows c.args.withs.now place (2 ^ v) row c.requires.reads
          (omega (arith, small, c.requires.counted, c.requires.place)) small h (rw e (set_single v))))))
    ]
