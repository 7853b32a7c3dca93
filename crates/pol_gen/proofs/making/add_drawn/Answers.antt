use Rattle.std.proofs.Common.{◌≡◌, List, [], ◌∷◌, ◌++◌, length, refl, ap, ◌∙◌, arith}
use Rattle.std.proofs.lemmas.List.{length_push}
use Rattle.pol_relation.specs.Instances.{ConstraintView, InstanceView, with_constraint}
use Rattle.pol_gen.specs.Draws.{draw_constraint}
use Rattle.pol_gen.proofs.DrawLemmas.{way_begins, way_goes_on, way_ends}
use Rattle.pol_gen.proofs.making.add_drawn.Goals as goal

pub loop-init : goal.loop-init
loop-init c = record {
  name = refl;
  variables = refl;
  few = omega arith;
  way = way_begins (λ constraints. constraints) c.args.count (draw_constraint c.args.lang.now c.variables-v.result) c.args.inst.now.constraints c.args.draws.now;
}

pub loop-preserved : goal.loop-preserved
loop-preserved c =
    let next = draw_constraint c.args.lang.now c.variables-v.result in
    let drawn : ConstraintView = (next c.loop.draws).drawn in
    let made : c.add_constraint.new.self ≡ with_constraint c.loop.inst drawn = rw (c.relation.ensures.relation, c.scope.ensures.scope, c.in_ok-constraint.ensures.drawn) at c.in_ok-add_constraint.ensures.ok in
    let added : c.add_constraint.new.self.constraints ≡ c.loop.inst.constraints ++ drawn ∷ [] = ap (λ (inst : InstanceView). inst.constraints) made in
    record {
      name = ap (λ (inst : InstanceView). inst.name) made ∙ c.loop.invariant.name;
      variables = ap (λ (inst : InstanceView). inst.variables) made ∙ c.loop.invariant.variables;
      few = omega (arith, ap length added, length_push c.loop.inst.constraints drawn, c.loop.invariant.few);
      way = rw (added, c.in_ok-constraint.ensures.state) (way_goes_on (λ (constraints : List ConstraintView). constraints) c.args.count next c.args.inst.now.constraints c.args.draws.now c.loop.counter c.loop.inst.constraints (drawn ∷ []) c.loop.draws c.loop-test.true (λ rest. refl) c.loop.invariant.way);
    }

pub returns-clause-added : goal.returns-clause-added
returns-clause-added c =
    let end = way_ends (λ (constraints : List ConstraintView). constraints) c.args.count (draw_constraint c.args.lang.now c.variables-v.result) c.args.inst.now.constraints c.args.draws.now c.loop.counter c.loop.inst.constraints c.loop.draws refl c.loop-test.false c.loop.invariant.way in
    let list = rw c.variables-v.ensures.variables at end.list in
    (λ i. record { name = c.loop.invariant.name i; variables = c.loop.invariant.variables i; constraints = list i })

pub returns-clause-state : goal.returns-clause-state
returns-clause-state c =
    let end = way_ends (λ (constraints : List ConstraintView). constraints) c.args.count (draw_constraint c.args.lang.now c.variables-v.result) c.args.inst.now.constraints c.args.draws.now c.loop.counter c.loop.inst.constraints c.loop.draws refl c.loop-test.false c.loop.invariant.way in
    rw c.variables-v.ensures.variables at end.state
