use Rattle.std.proofs.Common.{◌≡◌, length, ap, ◌∙◌, arith}
use Rattle.pol_relation.specs.Relations.{RelationView, relation_of}
use Rattle.pol_gen.proofs.DrawLemmas.{draw_numbers-tuple}
use Rattle.pol_gen.proofs.draws.Draws.draw_constraint.Goals as goal

pub returns-clause-fits : goal.returns-clause-fits
returns-clause-fits c =
    let tuple = draw_numbers-tuple c.arity.result c.args.v c.draw-relation.new.self c.requires.some_variables in
    let arity : c.arity.result ≡ (relation_of c.args.lang.now c.draw-relation.result).arity = c.arity.ensures.arity ∙ ap (λ (r : RelationView). r.arity) c.relation.ensures.relation in
    record {
      known = omega (arith, c.draw-relation.ensures.below, c.len.ensures.relations);
      long = ap length c.in_ok-scope.ensures.drawn ∙ tuple.long ∙ arity;
      below = rw c.in_ok-scope.ensures.drawn tuple.below;
    }

pub returns-clause-scope : goal.returns-clause-scope
returns-clause-scope c =
    let tuple = draw_numbers-tuple c.arity.result c.args.v c.draw-relation.new.self c.requires.some_variables in
    let long : length c.in_ok-scope.scope ≡ c.relation.result.now.arity = ap length c.in_ok-scope.ensures.drawn ∙ tuple.long ∙ c.arity.ensures.arity in
    record {
      some_places = omega (arith, long, c.arity.ensures.relation.some_places);
      few_places = omega (arith, long, c.arity.ensures.relation.few_places);
      below = rw c.in_ok-scope.ensures.drawn tuple.below;
    }
