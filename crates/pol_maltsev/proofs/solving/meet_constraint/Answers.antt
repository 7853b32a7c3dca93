use Rattle.std.proofs.Common.{◌≡◌, ◌≤◌, ℕ, List, length, ◌↔◌, ◌+◌}
use Rattle.pol_relation.specs.Relations.{no_named, rows_of, relation_of}
use Rattle.pol_relation.specs.Instances.{FitsAt, no_constraint, constraint_of}
use Rattle.pol_maltsev.specs.Representations.{ReadsRow}
use Rattle.pol_maltsev.specs.Solutions.{IsTableOfFirst}
use Rattle.pol_maltsev.specs.Views.{InTable}
use Rattle.pol_maltsev.proofs.SolvingLemmas.{table_of_none_left, size_none_left, table_of_more, table_size_is}
use Rattle.pol_maltsev.proofs.solving.meet_constraint.Goals as goal

-- no assignment is left
pub returns-then-size-eq0-clause-table : goal.returns-then-size-eq0-clause-table
returns-then-size-eq0-clause-table c =
    let some : 1 ≤ length c.args.inst.now.variables = rw c.requires.table.width at c.requires.table.sound.view.some_places in
    table_of_none_left c.args.op.now c.args.lang.now c.args.inst.now c.args.c c.args.table.now some c.requires.known (rw c.if-size-eq0.true at c.requires.size) c.requires.table

pub returns-then-size-eq0-clause-size : goal.returns-then-size-eq0-clause-size
returns-then-size-eq0-clause-size c =
    let some : 1 ≤ length c.args.inst.now.variables = rw c.requires.table.width at c.requires.table.sound.view.some_places in
    size_none_left c.args.lang.now c.args.inst.now c.args.c some c.requires.known (rw c.if-size-eq0.true at c.requires.size)

-- the relation is one of the language
pub meet-requires-clause-preserved : goal.meet-requires-clause-preserved
meet-requires-clause-preserved c =
    let fits : FitsAt c.args.lang.now (length c.args.inst.now.variables) (constraint_of c.args.inst.now c.args.c) = c.requires.fits c.args.c no_constraint c.requires.known in
    rw (c.relation.ensures.relation, c.relation_of.ensures.relation) (c.requires.polymorphism (constraint_of c.args.inst.now c.args.c).relation no_named fits.known)

-- one constraint more
pub returns-clause-table : goal.returns-clause-table
returns-clause-table c =
    table_of_more c.args.op.now c.args.lang.now c.args.inst.now c.args.c c.args.table.now c.meet.new.self c.requires.known c.requires.table c.in_ok-meet.ensures.shape c.in_ok-meet.ensures.sound c.in_ok-meet.ensures.natural
    (rw (c.scope.ensures.scope, c.relation.ensures.relation, c.relation_of.ensures.relation) at c.in_ok-meet.ensures.set)

pub returns-clause-size : goal.returns-clause-size
returns-clause-size c =
    let table : IsTableOfFirst c.args.op.now c.args.lang.now c.args.inst.now (c.args.c + 1) c.meet.new.self =
    table_of_more c.args.op.now c.args.lang.now c.args.inst.now c.args.c c.args.table.now c.meet.new.self c.requires.known c.requires.table c.in_ok-meet.ensures.shape c.in_ok-meet.ensures.sound c.in_ok-meet.ensures.natural
    (rw (c.scope.ensures.scope, c.relation.ensures.relation, c.relation_of.ensures.relation) at c.in_ok-meet.ensures.set) in
    table_size_is c.args.op.now c.args.lang.now c.args.inst.now (c.args.c + 1) c.size.result c.meet.new.self c.requires.domain table c.size.ensures.count
