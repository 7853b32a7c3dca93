use Rattle.std.proofs.Common.{◌≡◌, ◌<◌, length, arith, ◌∙◌, ap, take}
use Rattle.std.proofs.lemmas.List.{take_all}
use Rattle.std.specs.Prelude.{◌==◌}
use Rattle.std.specs.List.{count_by}
use Rattle.pol_base.specs.Tuples.{digits_of}
use Rattle.pol_base.proofs.CellLemmas.{length-digits_of}
use Rattle.pol_identity.proofs.ForcedLemmas.{count_same, count_other}
use Rattle.pol_identity.proofs.near_unanimity.count_of.Goals.{then-digit-value, else-digit-value}
use Rattle.pol_identity.proofs.near_unanimity.count_of.Goals as goal

pub loop-place-preserved : goal.loop-place-preserved
loop-place-preserved c =
    let digits = digits_of c.args.d c.args.k c.args.cell in
    let place = c.loop-place.place in
    let inside : place < length digits
    = rw (length-digits_of c.args.d c.args.k c.args.cell) c.loop-place-test.true in
    let same = count_same digits place c.args.value c.digit.result inside c.digit.ensures.digit in
    let other = count_other digits place c.args.value c.digit.result inside c.digit.ensures.digit in
    elim c.if-digit-value.branch [
      | then-digit-value w ↦ record {
        counted = omega (arith, same w.if-digit-value.true, w.count-is, c.loop-place.invariant.counted);
        within = omega (arith, w.count-is, c.loop-place.invariant.within);
      }
      | else-digit-value w ↦ record {
        counted = omega (arith, other w.if-digit-value.false, w.count-is, c.loop-place.invariant.counted);
        within = omega (arith, w.count-is, c.loop-place.invariant.within);
      }
    ]

pub returns : goal.returns
returns c =
    let digits = digits_of c.args.d c.args.k c.args.cell in
    let long : length digits ≡ c.args.k = length-digits_of c.args.d c.args.k c.args.cell in
    let all : take c.loop-place.place digits ≡ digits
    = take_all c.loop-place.place digits (rw long c.loop-place-test.false) in
    record {
      count = c.loop-place.invariant.counted ∙ ap (λ places. count_by (λ y. y == c.args.value) places) all;
      within = omega (arith, c.loop-place.invariant.within, c.loop-place.auto.place-end);
    }
