use Rattle.std.proofs.Common.{◌<◌, sym, ◌∙◌, arith}
use Rattle.std.proofs.lemmas.List.{get_or_default}
use Rattle.pol_identity.specs.LabelLaws.{all_labels, labelled_is}
use Rattle.pol_affine.proofs.solving.value_of.Goals as goal

pub returns-then-labels-value : goal.returns-then-labels-value
returns-then-labels-value c =
    let below : c.loop-value.value < c.args.d = omega (arith, c.loop-value-test.true, c.size-value-end.ensures.size) in
    record {
      value = sym (labelled_is c.args.d c.args.labels.now c.args.label c.loop-value.value c.requires.labelling below
          c.if-labels-value.true);
    }

pub returns : goal.returns
returns c =
    absurd (all_labels c.args.d c.args.labels.now c.args.label c.requires.labelling c.requires.label
    (λ k e inside same.
    let before : k < c.loop-value.value
    = omega (
      arith,
      inside,
      c.loop-value-test.false,
      c.size-value-end.ensures.size,
      c.requires.labelling.tuple.long,
    ) in
    c.loop-value.invariant k before (get_or_default c.args.labels.now k 0 e inside ∙ sym same)))
