use Rattle.std.proofs.Common.{arith}
use Rattle.pol_base.specs.Tuples.{digits_of}
use Rattle.pol_base.proofs.CellLemmas.{length-digits_of}
use Rattle.pol_identity.proofs.LabelLemmas.{few_lists, front_is, zeros_behind}
use Rattle.pol_identity.proofs.labels.label_list.Goals as goal

pub digit-requires-clause-few : goal.digit-requires-clause-few
digit-requires-clause-few c =
    let few = few_lists c.args.d c.size.ensures.within.few in
    rw (c.from-size.ensures, c.size.ensures.size) (omega (arith, few))

pub returns-clause-labels : goal.returns-clause-labels
returns-clause-labels c =
    let d = c.args.d in
    front_is d c.loop-place.labels (digits_of d d c.args.number)
    (omega (arith, c.loop-place.invariant.long, c.size.ensures.within.few)) (length-digits_of d d c.args.number)
    (λ k within. c.loop-place.invariant.front k
    (omega (arith, within, c.loop-place-test.false, c.from-size.ensures, c.size.ensures.size)))

pub returns-clause-zeros : goal.returns-clause-zeros
returns-clause-zeros c =
    zeros_behind c.args.d 5 c.loop-place.labels c.loop-place.invariant.long
    (λ k behind. c.loop-place.invariant.behind k
    (omega (arith, behind, c.loop-place.auto.place-end, c.from-size.ensures, c.size.ensures.size)))
