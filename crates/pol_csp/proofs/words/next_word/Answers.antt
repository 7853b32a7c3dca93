use Rattle.std.proofs.Common.{arith}
use Rattle.pol_csp.proofs.Narrowing.{none_set, left_falls}
use Rattle.pol_csp.proofs.Wording.{single_part, joined_word}
use Rattle.pol_csp.proofs.words.next_word.Goals as goal

pub returns-then-mask-eq0 : goal.returns-then-mask-eq0
returns-then-mask-eq0 c = record { reads = λ row known has. absurd (none_set c.args.mask _ c.if-mask-eq0.true has) }

pub bounds-withs-place : goal.bounds-withs-place
bounds-withs-place c =
    let less = left_falls c.args.mask c.lowest_value-value.result c.without-others.result
    c.without-others.ensures.others c.lowest_value-value.ensures.has in
    omega (arith, less, c.requires.counted)

pub bounds-withs-place-2 : goal.bounds-withs-place-2
bounds-withs-place-2 c =
    let less = single_part c.args.mask c.lowest_value-value.result c.without-others.result
    c.without-others.ensures.others c.requires.mask c.if-others-eq0.false c.lowest_value-value.ensures.has in
    omega (arith, less, c.requires.counted, c.value_mask.ensures.mask)

pub returns : goal.returns
returns c = record {
  reads = λ row known has. rw c.value_mask.ensures.mask
      (joined_word c.args.mask c.lowest_value-value.result c.without-others.result c.without-others.ensures.others
      c.args.r.now.rows c.args.withs.now c.args.place row c.requires.reads c.requires.counted c.requires.mask
      c.if-others-eq0.false c.lowest_value-value.ensures.has known has);
}
