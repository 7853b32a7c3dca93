use Rattle.std.proofs.Common.{◌≡◌, ◌∙◌, ap, arith}
use Rattle.pol_maltsev.specs.Samples.{Restriction, IsRestriction}
use Rattle.pol_maltsev.proofs.RestrictedPlaces.{restricted_more, restricted_all}
use Rattle.pol_maltsev.proofs.table.Table.restrict.Goals as goal

-- one place more
pub loop-k-preserved : goal.loop-k-preserved
loop-k-preserved c =
    let r : Restriction = record { rows = c.args.found.now; first = c.args.q } in
    let is : IsRestriction c.args.op.now c.args.self.now r = record { sound = c.requires.sound; inside = c.requires.inside; preserved = c.requires.kept } in
    rw c.place.ensures.place
    (restricted_more c.args.op.now c.args.self.now r c.loop-k.k c.loop-k.places.items c.in_ok-classes.classes is (omega (arith, c.loop-k-test.true, c.width-k-end.ensures.width)) c.loop-k.invariant
    (rw c.as_slice.ensures.value at c.in_ok-classes.ensures.restricted))

-- rows and roots are at each place
pub invariant_of-result : goal.invariant_of-result
invariant_of-result c =
    let r : Restriction = record { rows = c.args.found.now; first = c.args.q } in
    let is : IsRestriction c.args.op.now c.args.self.now r = record { sound = c.requires.sound; inside = c.requires.inside; preserved = c.requires.kept } in
    (restricted_all c.args.op.now c.args.self.now r c.loop-k.k c.domain.result c.width-2.result c.in_ok-from_slice.field-0.items c.loop-k.places.items is c.requires.some c.loop-k.invariant
    (omega (arith, c.loop-k-test.false, c.width-k-end.ensures.width)) (omega (arith, c.loop-k.auto.k-end, c.width-k-end.ensures.width)) c.domain.ensures.domain c.width-2.ensures.width
    (c.in_ok-from_slice.ensures.items ∙ c.as_slice-2.ensures.value ∙ ap (λ v. v.order) c.self.view_is)).view

-- the table stands for its set
pub returns-clause-sound : goal.returns-clause-sound
returns-clause-sound c =
    let r : Restriction = record { rows = c.args.found.now; first = c.args.q } in
    let is : IsRestriction c.args.op.now c.args.self.now r = record { sound = c.requires.sound; inside = c.requires.inside; preserved = c.requires.kept } in
    (restricted_all c.args.op.now c.args.self.now r c.loop-k.k c.domain.result c.width-2.result c.in_ok-from_slice.field-0.items c.loop-k.places.items is c.requires.some c.loop-k.invariant
    (omega (arith, c.loop-k-test.false, c.width-k-end.ensures.width)) (omega (arith, c.loop-k.auto.k-end, c.width-k-end.ensures.width)) c.domain.ensures.domain c.width-2.ensures.width
    (c.in_ok-from_slice.ensures.items ∙ c.as_slice-2.ensures.value ∙ ap (λ v. v.order) c.self.view_is)).sound

-- of the kept members
pub returns-clause-set : goal.returns-clause-set
returns-clause-set c =
    let r : Restriction = record { rows = c.args.found.now; first = c.args.q } in
    let is : IsRestriction c.args.op.now c.args.self.now r = record { sound = c.requires.sound; inside = c.requires.inside; preserved = c.requires.kept } in
    (restricted_all c.args.op.now c.args.self.now r c.loop-k.k c.domain.result c.width-2.result c.in_ok-from_slice.field-0.items c.loop-k.places.items is c.requires.some c.loop-k.invariant
    (omega (arith, c.loop-k-test.false, c.width-k-end.ensures.width)) (omega (arith, c.loop-k.auto.k-end, c.width-k-end.ensures.width)) c.domain.ensures.domain c.width-2.ensures.width
    (c.in_ok-from_slice.ensures.items ∙ c.as_slice-2.ensures.value ∙ ap (λ v. v.order) c.self.view_is)).set
