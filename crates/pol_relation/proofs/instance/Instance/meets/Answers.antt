use Rattle.std.proofs.Common.{◌≡◌, ◌<◌, length, ◌∙◌, arith, length-set}
use Rattle.pol_relation.specs.Instances.{FitsAt, no_constraint, constraint_of}
use Rattle.pol_relation.specs.Relations.{relation_of, rows_of}
use Rattle.pol_relation.proofs.SolutionLemmas.{IsTuple-read_at, IsRead-next, IsRead-all}
use Rattle.pol_relation.proofs.instance.Instance.meets.Goals as goal

pub loop-place-preserved : goal.loop-place-preserved
loop-place-preserved c =
    let inside : c.loop-place.place < length c.scope-scope.result.now = c.loop-place-test.true in
    let room : c.loop-place.place < length c.loop-place.tuple = omega (arith, c.loop-place.invariant.long, inside, c.scope-scope.ensures.few_places) in
    record {
      long = length-set _ _ _ ∙ c.loop-place.invariant.long;
      read = IsRead-next c.args.assignment.now c.scope-scope.result.now c.loop-place.tuple c.loop-place.place inside room c.loop-place.invariant.read;
    }

pub has-requires : goal.has-requires
has-requires c =
    let at = constraint_of c.args.self.now c.args.c in
    let fits : FitsAt c.args.lang.now (length c.args.self.now.variables) at = c.requires.fits c.args.c no_constraint c.requires.known in
    let done : c.loop-place.place ≡ length c.scope-scope.result.now = omega (arith, c.loop-place-test.false, c.loop-place.auto.place-end) in
    let read = IsRead-all c.args.assignment.now c.scope-scope.result.now c.loop-place.tuple c.loop-place.place done c.loop-place.invariant.read in
    let tuple = IsTuple-read_at c.args.lang.now.domain (length c.args.self.now.variables) (relation_of c.args.lang.now at.relation).arity c.args.assignment.now at.scope c.requires.assigns fits.below fits.long in
    let arity : c.relation.result.now.arity ≡ (relation_of c.args.lang.now at.relation).arity = cc (c.relation.ensures.relation, c.relation_of.ensures.relation) in
    record { tuple = rw (read, c.scope-scope.ensures.scope, c.relation.ensures.over.same_domain, arity) tuple }

pub returns : goal.returns
returns c =
    let at = constraint_of c.args.self.now c.args.c in
    let done : c.loop-place.place ≡ length c.scope-scope.result.now = omega (arith, c.loop-place-test.false, c.loop-place.auto.place-end) in
    let read = IsRead-all c.args.assignment.now c.scope-scope.result.now c.loop-place.tuple c.loop-place.place done c.loop-place.invariant.read in
    let rows : c.relation.result.now.rows ≡ rows_of c.args.lang.now at.relation = cc (c.relation.ensures.relation, c.relation_of.ensures.relation) in
    record { meets = rw (rows, read, c.scope-scope.ensures.scope) at c.has.ensures.row }
