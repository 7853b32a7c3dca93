use Rattle.std.proofs.Common.{◌≡◌, length, arith, get_or}
use Rattle.pol_relation.specs.Instances.{FitsAt, no_constraint}
use Rattle.pol_relation.specs.Relations.{relation_of}
use Rattle.pol_relation.proofs.SolutionLemmas.{IsTuple-read_at, IsRead-all}
use Rattle.pol_csp.proofs.given.meets.Goals as goal

pub has-requires : goal.has-requires
has-requires c =
    let at = get_or c.args.problem.now.constraints c.args.c no_constraint in
    let fits : FitsAt c.args.lang.now (length c.args.problem.now.masks) at =
    c.requires.fits.constraints c.args.c no_constraint c.requires.known in
    let done : c.loop-place.place ≡ length c.scope-scope.result.now = omega (
      arith,
      c.loop-place-test.false,
      c.loop-place.auto.place-end,
    ) in
    let values = c.args.values.now in
    let arity = (relation_of c.args.lang.now at.relation).arity in
    let read = IsRead-all values c.scope-scope.result.now c.loop-place.tuple c.loop-place.place done
    c.loop-place.invariant.read in
    let tuple = IsTuple-read_at c.args.lang.now.domain (length c.args.problem.now.masks) arity values at.scope
    c.requires.tuple fits.below fits.long in
    let arity_is : c.relation.result.now.arity ≡ arity =
    cc (c.relation.ensures.relation, c.relation_of.ensures.relation) in
    record { tuple = rw (read, c.scope-scope.ensures.scope, c.relation.ensures.over.same_domain, arity_is) tuple }
