use Rattle.std.proofs.Common.{◌≡◌, length, arith, refl}
use Rattle.pol_base.specs.Tuples.{IsTuple}
use Rattle.pol_relation.specs.Instances.{read_at}
use Rattle.pol_relation.proofs.SolutionLemmas.{IsTuple-read_at, IsRead-all}
use Rattle.pol_maltsev.proofs.meeting.reads_row.Goals as goal

-- the word is a tuple of the relation
pub has-requires : goal.has-requires
has-requires c =
    let done : c.loop-k.k ≡ length c.args.scope.now = omega (arith, c.loop-k-test.false, c.loop-k.auto.k-end) in
    let read = IsRead-all c.args.tuple.now c.args.scope.now c.loop-k.word c.loop-k.k done c.loop-k.invariant.read in
    let tuple : IsTuple c.args.r.now.domain c.args.r.now.arity (read_at c.args.tuple.now c.args.scope.now) =
    IsTuple-read_at c.args.r.now.domain (length c.args.tuple.now) c.args.r.now.arity c.args.tuple.now c.args.scope.now (record { long = refl; below = c.requires.below }) c.requires.places c.requires.long in
    record { tuple = rw read tuple }
