use Rattle.std.proofs.Common.{◌≡◌, ◌<◌, [], ◌∷◌, ◌++◌, length, refl, ap, sym, ◌∙◌, arith, true, false}
use Rattle.std.specs.List.{filter}
use Rattle.std.proofs.lemmas.List.{length_push, append-nil}
use Rattle.pol_relation.specs.Instances.{ConstraintView, InstanceView, with_constraint}
use Rattle.pol_gen.specs.Draws.{draw_constraint}
use Rattle.pol_gen.specs.Files.{is_met, tries}
use Rattle.pol_gen.proofs.ConstraintLemmas.{filter-kept, filter-dropped, sixty_tries}
use Rattle.pol_gen.proofs.DrawLemmas.{way_begins, way_goes_on, way_ends}
use Rattle.pol_gen.proofs.making.add_met.Goals.{then-meets+in_ok-add_constraint, else-meets}
use Rattle.pol_gen.proofs.making.add_met.Goals as goal

pub loop-init : goal.loop-init
loop-init c = record {
  name = refl;
  variables = refl;
  few = omega arith;
  way = way_begins (filter (is_met c.args.lang.now c.args.hidden.now)) tries (draw_constraint c.args.lang.now c.variables-v.result) c.args.inst.now.constraints c.args.draws.now;
}

pub loop-preserved : goal.loop-preserved
loop-preserved c =
    let next = draw_constraint c.args.lang.now c.variables-v.result in
    let drawn : ConstraintView = (next c.loop.draws).drawn in
    let test = is_met c.args.lang.now c.args.hidden.now in
    let more : c.loop.counter < tries = omega (arith, c.loop-test.true, sixty_tries) in
    elim c.if-meets.branch [
      | then-meets+in_ok-add_constraint w ↦
          let met : test drawn ≡ true = ap test (sym c.in_ok-constraint.ensures.drawn) ∙ (sym c.meets.ensures.met ∙ w.if-meets.true) in
          let made : c.if-meets.inst ≡ with_constraint c.loop.inst drawn = w.inst-is ∙ (rw (w.relation.ensures.relation, w.scope.ensures.scope, c.in_ok-constraint.ensures.drawn) at w.in_ok-add_constraint.ensures.ok) in
          let added : c.if-meets.inst.constraints ≡ c.loop.inst.constraints ++ drawn ∷ [] = ap (λ (inst : InstanceView). inst.constraints) made in
          record {
            name = ap (λ (inst : InstanceView). inst.name) made ∙ c.loop.invariant.name;
            variables = ap (λ (inst : InstanceView). inst.variables) made ∙ c.loop.invariant.variables;
            few = omega (arith, ap length added, length_push c.loop.inst.constraints drawn, c.loop.invariant.few);
            way = rw (added, c.in_ok-constraint.ensures.state) (way_goes_on (filter test) tries next c.args.inst.now.constraints c.args.draws.now c.loop.counter c.loop.inst.constraints (drawn ∷ []) c.loop.draws more (filter-kept test drawn met) c.loop.invariant.way);
          }
      | else-meets w ↦
          let dropped : test drawn ≡ false = ap test (sym c.in_ok-constraint.ensures.drawn) ∙ (sym c.meets.ensures.met ∙ w.if-meets.false) in
          let kept : c.if-meets.inst.constraints ≡ c.loop.inst.constraints ++ [] = ap (λ (inst : InstanceView). inst.constraints) w.inst-is ∙ sym (append-nil c.loop.inst.constraints) in
          record {
            name = ap (λ (inst : InstanceView). inst.name) w.inst-is ∙ c.loop.invariant.name;
            variables = ap (λ (inst : InstanceView). inst.variables) w.inst-is ∙ c.loop.invariant.variables;
            few = omega (arith, ap (λ (inst : InstanceView). length inst.constraints) w.inst-is, c.loop.invariant.few);
            way = rw (kept, c.in_ok-constraint.ensures.state) (way_goes_on (filter test) tries next c.args.inst.now.constraints c.args.draws.now c.loop.counter c.loop.inst.constraints [] c.loop.draws more (filter-dropped test drawn dropped) c.loop.invariant.way);
          }
    ]

pub returns-clause-added : goal.returns-clause-added
returns-clause-added c =
    let end = way_ends (filter (is_met c.args.lang.now c.args.hidden.now)) tries (draw_constraint c.args.lang.now c.variables-v.result) c.args.inst.now.constraints c.args.draws.now c.loop.counter c.loop.inst.constraints c.loop.draws refl (omega (arith, c.loop-test.false, sixty_tries)) c.loop.invariant.way in
    let list = rw c.variables-v.ensures.variables at end.list in
    (λ i. record { name = c.loop.invariant.name i; variables = c.loop.invariant.variables i; constraints = list i })

pub returns-clause-state : goal.returns-clause-state
returns-clause-state c =
    let end = way_ends (filter (is_met c.args.lang.now c.args.hidden.now)) tries (draw_constraint c.args.lang.now c.variables-v.result) c.args.inst.now.constraints c.args.draws.now c.loop.counter c.loop.inst.constraints c.loop.draws refl (omega (arith, c.loop-test.false, sixty_tries)) c.loop.invariant.way in
    rw c.variables-v.ensures.variables at end.state
