use Rattle.std.proofs.Common.{arith}
use Rattle.pol_maltsev.proofs.FromRowsLemmas.{places_of_more, table_of_rows}
use Rattle.pol_maltsev.proofs.table.Table.of_rows.Goals as goal

-- one place more
pub loop-i-preserved : goal.loop-i-preserved
loop-i-preserved c =
    let r = c.args.rows.now in
    rw c.in_ok-push.ensures.items
    (places_of_more c.args.op.now r.domain r.width c.loop-i.i r.rows c.loop-i.places.items c.in_ok-classes_of_rows.field-0 c.loop-i.invariant c.in_ok-classes_of_rows.ensures.made)

-- the classes of all places
pub invariant_of-result : goal.invariant_of-result
invariant_of-result c =
    let r = c.args.rows.now in
    rw (c.domain.ensures.domain, c.width-width.ensures.width)
    (table_of_rows c.args.op.now r c.loop-i.i c.in_ok-natural_order.field-0.items c.loop-i.places.items c.requires.compact (rw c.width-width.ensures.width at c.in_ok-natural_order.ensures.natural)
    (omega (arith, c.loop-i-test.false, c.loop-i.auto.i-end, c.width-width.ensures.width)) c.loop-i.invariant).view

-- the table stands for its set
pub returns-clause-sound : goal.returns-clause-sound
returns-clause-sound c =
    let r = c.args.rows.now in
    rw (c.domain.ensures.domain, c.width-width.ensures.width)
    (table_of_rows c.args.op.now r c.loop-i.i c.in_ok-natural_order.field-0.items c.loop-i.places.items c.requires.compact (rw c.width-width.ensures.width at c.in_ok-natural_order.ensures.natural)
    (omega (arith, c.loop-i-test.false, c.loop-i.auto.i-end, c.width-width.ensures.width)) c.loop-i.invariant).sound

-- which is that of the rows
pub returns-clause-set : goal.returns-clause-set
returns-clause-set c =
    let r = c.args.rows.now in
    rw (c.domain.ensures.domain, c.width-width.ensures.width)
    (table_of_rows c.args.op.now r c.loop-i.i c.in_ok-natural_order.field-0.items c.loop-i.places.items c.requires.compact (rw c.width-width.ensures.width at c.in_ok-natural_order.ensures.natural)
    (omega (arith, c.loop-i-test.false, c.loop-i.auto.i-end, c.width-width.ensures.width)) c.loop-i.invariant).set
