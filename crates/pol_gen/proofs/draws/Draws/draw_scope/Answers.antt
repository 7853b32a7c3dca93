use Rattle.std.proofs.Common.{[], ◌∷◌, refl, List, ℕ}
use Rattle.pol_gen.specs.Draws.{draw}
use Rattle.pol_gen.proofs.DrawLemmas.{way_begins, way_goes_on, way_ends}
use Rattle.pol_gen.proofs.draws.Draws.draw_scope.Goals as goal

pub loop-init : goal.loop-init
loop-init c = rw c.new-scope.ensures.empty (way_begins (λ scope. scope) c.args.places (draw c.args.v) [] c.args.self.now)

pub loop-preserved : goal.loop-preserved
loop-preserved c =
    let next = draw c.args.v in
    let drawn = (next c.loop.self).drawn in
    rw (c.in_ok-push.ensures.ok, c.draw.ensures.drawn, c.draw.ensures.state) (way_goes_on (λ (scope : List ℕ). scope) c.args.places next [] c.args.self.now c.loop.counter c.loop.scope (drawn ∷ []) c.loop.self c.loop-test.true (λ rest. refl) c.loop.invariant)

pub returns-clause-drawn : goal.returns-clause-drawn
returns-clause-drawn c = (way_ends (λ (scope : List ℕ). scope) c.args.places (draw c.args.v) [] c.args.self.now c.loop.counter c.loop.scope c.loop.self refl c.loop-test.false c.loop.invariant).list

pub returns-clause-state : goal.returns-clause-state
returns-clause-state c = (way_ends (λ (scope : List ℕ). scope) c.args.places (draw c.args.v) [] c.args.self.now c.loop.counter c.loop.scope c.loop.self refl c.loop-test.false c.loop.invariant).state
