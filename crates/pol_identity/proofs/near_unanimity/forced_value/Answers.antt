use Rattle.std.proofs.Common.{length, ◌≡◌, ◌<◌, ◌≤◌, ◌+◌, arith, inl, inr, sym}
use Rattle.std.specs.Prelude.{◌==◌}
use Rattle.std.specs.List.{count_by}
use Rattle.std.proofs.lemmas.Bool.{cases_lt}
use Rattle.pol_base.specs.Tuples.{digits_of}
use Rattle.pol_base.proofs.CellLemmas.{length-digits_of}
use Rattle.pol_identity.proofs.ForcedLemmas.{forced_at, forced_nowhere}
use Rattle.pol_identity.proofs.near_unanimity.forced_value.Goals as goal

pub returns-then-k-count_of : goal.returns-then-k-count_of
returns-then-k-count_of c =
    let digits = digits_of c.args.d c.args.k c.args.cell in
    let long : length digits ≡ c.args.k = length-digits_of c.args.d c.args.k c.args.cell in
    let most : c.args.k ≤ count_by (λ y. y == c.digit-value.result) digits + 1
    = omega (arith, c.count_of.ensures.count, c.if-k-count_of.true) in
    record {
      forced = sym (forced_at c.args.k digits c.loop-place.place c.digit-value.result long c.loop-place-test.true
          c.digit-value.ensures.digit most c.loop-place.invariant);
    }

pub loop-place-preserved : goal.loop-place-preserved
loop-place-preserved c = λ j less.
    let digits = digits_of c.args.d c.args.k c.args.cell in
    elim (cases_lt j c.loop-place.place) [
      | inl before ↦ c.loop-place.invariant j before
      | inr here ↦
          let same : j ≡ c.loop-place.place = omega (arith, here, less) in
          let few : count_by (λ y. y == c.digit-value.result) digits + 1 < c.args.k
          = omega (arith, c.count_of.ensures.count, c.if-k-count_of.false) in
          rw (same, ← c.digit-value.ensures.digit) few
    ]

pub returns : goal.returns
returns c =
    let digits = digits_of c.args.d c.args.k c.args.cell in
    let long : length digits ≡ c.args.k = length-digits_of c.args.d c.args.k c.args.cell in
    record {
      forced = sym (forced_nowhere c.args.k digits long
          (λ j inside. c.loop-place.invariant j (omega (arith, inside, c.loop-place-test.false))));
    }
