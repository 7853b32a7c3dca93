use Rattle.std.proofs.Common.{◌≡◌, ◌-◌, ◌<◌, take, arith, ap, ◌∙◌, subst}
use Rattle.pol_relation.specs.Relations.{IsRelation, relation_of}
use Rattle.pol_optable.specs.SetBreaks.{IsBrokenSets}
use Rattle.pol_setfn.specs.Projected.{AddsProjected}
use Rattle.pol_setfn.proofs.ProjectedLemmas.{adds_trans, mask_few}
use Rattle.pol_setfn.proofs.broken.add_vectors.Goals as goal

pub overflow_add-masks : goal.overflow_add-masks
overflow_add-masks c =
    let r = relation_of c.args.sets.now c.args.broken.relation in
    let same : c.relation.result.now ≡ r = c.relation.ensures.relation ∙ ap (λ lang. relation_of lang c.args.broken.relation) c.language.ensures.same in
    let is : IsRelation r = subst IsRelation same c.relation.ensures.over.is_relation in
    let arity : c.arity.result ≡ r.arity = c.arity.ensures.arity ∙ ap (λ r. r.arity) same in
    let last : c.arity.result - 1 < r.arity = omega (arith, arity, is.some_places) in
    let few = mask_few r c.loop.masks (c.arity.result - 1) is c.loop.invariant.at.broken.is_projection last in
    omega (arith, few)

pub loop-preserved : goal.loop-preserved
loop-preserved c =
    let sets = c.args.sets.now in
    let g = c.args.g.now in
    let added = subst (λ lang. AddsProjected lang c.loop.pool c.add_vector.new.pool) c.language-in-loop.ensures.same c.in_ok-add_vector.ensures.added in
    record {
      at = record {
        known = c.in-Some.ensures.known;
        broken = subst (λ r. IsBrokenSets g r (take r.arity c.in-Some-next_break.next)) c.in-Some.ensures.same c.in-Some-next_break.ensures.broken;
      };
      added = adds_trans sets c.args.pool.now c.loop.pool c.add_vector.new.pool c.loop.invariant.added added;
    }
