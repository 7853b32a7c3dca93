use Rattle.std.proofs.Common.{◌≤◌, length, ap, None, refl}
use Rattle.pol_optable.proofs.BreakLemmas.{unbroken_without_rows, least_from_first, none_preserves}
use Rattle.pol_optable.proofs.RowSetLemmas.{IsRoom-most}
use Rattle.pol_optable.proofs.table.OpTable.breaks.Goals as goal

pub in_room-rows-requires : goal.in_room-rows-requires
in_room-rows-requires g c =
    let few : length c.args.r.now.rows ≤ 15625 = rw (← c.len-count.ensures.rows) c.len-count.ensures.few in
    record { room = IsRoom-most c.args.r.now 15625 0 0 c.len-count.ensures.relation refl few }

pub returns-then-is_empty-clause-least : goal.returns-then-is_empty-clause-least
returns-then-is_empty-clause-least g c =
    unbroken_without_rows g.row.K c.args.self.now c.args.r.now c.domain-table.ensures.table
    (ap length (c.is_empty.ensures.empty.0 c.if-is_empty.true))

pub returns-then-is_empty-clause-none : goal.returns-then-is_empty-clause-none
returns-then-is_empty-clause-none g c =
    none_preserves c.args.self.now c.args.r.now None
    (unbroken_without_rows g.row.K c.args.self.now c.args.r.now c.domain-table.ensures.table
    (ap length (c.is_empty.ensures.empty.0 c.if-is_empty.true)))

pub returns-clause-least : goal.returns-clause-least
returns-clause-least g c =
    least_from_first g.row.K c.args.self.now c.args.r.now c.next_break.result c.domain-table.ensures.table
    (rw c.in_room-rows.ensures.same at c.next_break.ensures.least)
    (rw (c.in_room-rows.ensures.same, c.len-count.ensures.rows) at c.next_break.ensures.none)

pub returns-clause-none : goal.returns-clause-none
returns-clause-none g c =
    none_preserves c.args.self.now c.args.r.now c.next_break.result
    (least_from_first g.row.K c.args.self.now c.args.r.now c.next_break.result c.domain-table.ensures.table
    (rw c.in_room-rows.ensures.same at c.next_break.ensures.least)
    (rw (c.in_room-rows.ensures.same, c.len-count.ensures.rows) at c.next_break.ensures.none))
