use Rattle.std.proofs.Common.{◌<◌, All, ◌↔◌, List, ℕ, length}
use Rattle.pol_maltsev.specs.Restrictions.{AreReaders, AreFirsts, IsRestricted}
use Rattle.pol_maltsev.specs.Views.{InTable}
use Rattle.pol_maltsev.proofs.MeetTables.{reads_only_set, met_set}
use Rattle.pol_maltsev.proofs.RestrictTables.{readers_preserved}
use Rattle.pol_maltsev.proofs.table.Table.meet.Goals as goal

-- each row reads a row of the relation
pub returns-then-reads_only-clause-set : goal.returns-then-reads_only-clause-set
returns-then-reads_only-clause-set c =
    reads_only_set c.args.op.now c.args.self.now c.args.scope.now c.args.r.now c.requires.sound c.requires.preserved c.requires.scope c.requires.long (c.reads_only.ensures.reads.0 c.if-reads_only.true)

-- the relation is preserved
pub restrict-requires-clause-kept : goal.restrict-requires-clause-kept
restrict-requires-clause-kept c =
    let mid = c.scope_to_front.new.self in
    let below : All (λ p. p < mid.width) c.args.scope.now = rw c.scope_to_front.ensures.reordered.shape.width c.requires.scope in
    let readers : AreReaders (InTable c.args.op.now mid) c.args.scope.now c.args.r.now.rows c.in_ok-found.found.items = c.in_ok-found.ensures.readers in
    rw (c.as_slice-3.ensures.value, c.as_slice-2.ensures.items)
    (readers_preserved c.args.op.now mid c.args.r.now c.args.scope.now c.in_ok-first.first c.in_ok-found.found.items c.scope_to_front.ensures.reordered.sound c.requires.preserved below c.requires.long c.in_ok-first.ensures.firsts readers)

-- the members that are left
pub returns-clause-set : goal.returns-clause-set
returns-clause-set c =
    let mid = c.scope_to_front.new.self in
    let readers : AreReaders (InTable c.args.op.now mid) c.args.scope.now c.args.r.now.rows c.in_ok-found.found.items = c.in_ok-found.ensures.readers in
    let cut : (t : List ℕ) → InTable c.args.op.now c.in_ok-met.met t ↔ IsRestricted (InTable c.args.op.now mid) c.in_ok-found.found.items mid.order (length c.in_ok-first.first) t =
    rw (c.as_slice-3.ensures.value, c.as_slice-2.ensures.items) at c.in_ok-met.ensures.set in
    met_set c.args.op.now c.args.scope.now c.in_ok-first.first c.args.r.now.rows c.in_ok-found.found.items c.args.self.now mid c.in_ok-met.met c.to_natural.new.self c.scope_to_front.ensures.reordered
    c.in_ok-first.ensures.firsts readers cut c.to_natural.ensures.reordered
