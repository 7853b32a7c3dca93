use Rattle.std.proofs.Common.{◌≡◌, ◌^◌, take, arith, sym, subst, refl}
use Rattle.pol_base.specs.Tuples.{digits_of}
use Rattle.pol_base.specs.Least.{IsLeast}
use Rattle.pol_identity.specs.Labels.{IsAffineLabelling}
use Rattle.pol_identity.proofs.LabelLemmas.{none_listed, least_listed}
use Rattle.pol_identity.proofs.labels.affine_labels.Goals as goal

pub returns-then-is_affine_labelling-clause-least : goal.returns-then-is_affine_labelling-clause-least
returns-then-is_affine_labelling-clause-least c =
    let f = c.args.t.now in
    let d = f.domain in
    let number = c.loop-number.number in
    let labels = c.label_list-labels.result in
    let all : c.label_lists-number-end.result ≡ d ^ d
    = subst (λ n. c.label_lists-number-end.result ≡ n ^ n) c.domain-d.ensures.domain
    c.label_lists-number-end.ensures.count in
    let listed : take d labels ≡ digits_of d d number
    = subst (λ n. take n labels ≡ digits_of n n number) c.domain-d.ensures.domain c.label_list-labels.ensures.labels in
    let here : IsAffineLabelling f (digits_of d d number)
    = subst (IsAffineLabelling f) listed (c.if-is_affine_labelling.ensures.affine.0 refl) in
    subst (IsLeast (IsAffineLabelling f)) (sym listed)
    (least_listed d d (IsAffineLabelling f) (λ other affine. affine.is_labelling.tuple) number
    c.domain-d.ensures.table.domain_is.some (omega (arith, all, c.loop-number-test.true)) here c.loop-number.invariant)

pub returns-clause-least : goal.returns-clause-least
returns-clause-least c =
    let f = c.args.t.now in
    let d = f.domain in
    let all : c.label_lists-number-end.result ≡ d ^ d
    = subst (λ n. c.label_lists-number-end.result ≡ n ^ n) c.domain-d.ensures.domain
    c.label_lists-number-end.ensures.count in
    none_listed d d (IsAffineLabelling f) (λ labels affine. affine.is_labelling.tuple)
    (λ number known. c.loop-number.invariant number (omega (arith, all, known, c.loop-number-test.false)))
