use Rattle.std.proofs.Common.{◌≡◌, ◌<◌, length, ap, ◌∙◌, arith, length-set}
use Rattle.pol_relation.specs.Relations.{relation_of, rows_of}
use Rattle.pol_relation.proofs.SolutionLemmas.{IsTuple-read_at, IsRead-next, IsRead-all}
use Rattle.pol_gen.proofs.RowLemmas.{same_test}
use Rattle.pol_gen.proofs.making.meets.Goals as goal

-- a scope has at most six places
pub bounds-tuple-place : goal.bounds-tuple-place
bounds-tuple-place c =
    let arity : c.relation-relation.result.now.arity ≡ (relation_of c.args.lang.now c.args.constraint.now.relation).arity = cc (c.relation-relation.ensures.relation, c.relation.ensures.relation) in
    omega (arith, c.loop-place-test.true, c.relation-relation.ensures.over.is_relation.few_places, arity, c.requires.fits.long, ap length c.scope-scope.ensures.scope)

pub loop-place-preserved : goal.loop-place-preserved
loop-place-preserved c =
    let inside : c.loop-place.place < length c.scope-scope.result.now = c.loop-place-test.true in
    let arity : c.relation-relation.result.now.arity ≡ (relation_of c.args.lang.now c.args.constraint.now.relation).arity = cc (c.relation-relation.ensures.relation, c.relation.ensures.relation) in
    let room : c.loop-place.place < length c.loop-place.tuple = omega (arith, c.loop-place.invariant.long, inside, c.relation-relation.ensures.over.is_relation.few_places, arity, c.requires.fits.long, ap length c.scope-scope.ensures.scope) in
    record {
      long = length-set _ _ _ ∙ c.loop-place.invariant.long;
      read = IsRead-next c.args.hidden.now c.scope-scope.result.now c.loop-place.tuple c.loop-place.place inside room c.loop-place.invariant.read;
    }

pub has-requires : goal.has-requires
has-requires c =
    let at = c.args.constraint.now in
    let done : c.loop-place.place ≡ length c.scope-scope.result.now = omega (arith, c.loop-place-test.false, c.loop-place.auto.place-end) in
    let read = IsRead-all c.args.hidden.now c.scope-scope.result.now c.loop-place.tuple c.loop-place.place done c.loop-place.invariant.read in
    let tuple = IsTuple-read_at c.args.lang.now.domain (length c.args.hidden.now) (relation_of c.args.lang.now at.relation).arity c.args.hidden.now at.scope c.requires.assigns c.requires.fits.below c.requires.fits.long in
    let arity : c.relation-relation.result.now.arity ≡ (relation_of c.args.lang.now at.relation).arity = cc (c.relation-relation.ensures.relation, c.relation.ensures.relation) in
    record { tuple = rw (read, c.scope-scope.ensures.scope, c.relation-relation.ensures.over.same_domain, arity) tuple }

pub returns : goal.returns
returns c =
    let at = c.args.constraint.now in
    let done : c.loop-place.place ≡ length c.scope-scope.result.now = omega (arith, c.loop-place-test.false, c.loop-place.auto.place-end) in
    let read = IsRead-all c.args.hidden.now c.scope-scope.result.now c.loop-place.tuple c.loop-place.place done c.loop-place.invariant.read in
    let rows : c.relation-relation.result.now.rows ≡ rows_of c.args.lang.now at.relation = cc (c.relation-relation.ensures.relation, c.relation.ensures.relation) in
    record { met = same_test c.has.result _ _ (rw (rows, read, c.scope-scope.ensures.scope) at c.has.ensures.row) }
