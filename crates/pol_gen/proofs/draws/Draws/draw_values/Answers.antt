use Rattle.std.proofs.Common.{◌≡◌, [], ◌∷◌, ◌∙◌, refl, List, ℕ}
use Rattle.pol_gen.specs.Draws.{draw}
use Rattle.pol_gen.proofs.DrawLemmas.{way_begins, way_goes_on, way_ends}
use Rattle.pol_gen.proofs.draws.Draws.draw_values.Goals as goal

pub loop-init : goal.loop-init
loop-init c = rw c.new-values.ensures.empty (way_begins (λ values. values) c.args.v (draw c.from-n.result) [] c.args.self.now)

pub loop-preserved : goal.loop-preserved
loop-preserved c =
    let next = draw c.from-n.result in
    let drawn = (next c.loop.self).drawn in
    rw (c.in_ok-push.ensures.ok, c.draw.ensures.drawn, c.draw.ensures.state) (way_goes_on (λ (values : List ℕ). values) c.args.v next [] c.args.self.now c.loop.counter c.loop.values (drawn ∷ []) c.loop.self c.loop-test.true (λ rest. refl) c.loop.invariant)

pub returns-clause-drawn : goal.returns-clause-drawn
returns-clause-drawn c =
    let size : c.from-n.result ≡ c.args.d = c.from-n.ensures ∙ c.size.ensures.size in
    let end = way_ends (λ (values : List ℕ). values) c.args.v (draw c.from-n.result) [] c.args.self.now c.loop.counter c.loop.values c.loop.self refl c.loop-test.false c.loop.invariant in
    rw size at end.list

pub returns-clause-state : goal.returns-clause-state
returns-clause-state c =
    let size : c.from-n.result ≡ c.args.d = c.from-n.ensures ∙ c.size.ensures.size in
    let end = way_ends (λ (values : List ℕ). values) c.args.v (draw c.from-n.result) [] c.args.self.now c.loop.counter c.loop.values c.loop.self refl c.loop-test.false c.loop.invariant in
    rw size at end.state
