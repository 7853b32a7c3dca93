use Rattle.std.proofs.Common.{arith}
use Rattle.pol_maltsev.proofs.FullLemmas.{full_is}
use Rattle.pol_maltsev.proofs.table.Table.full.Goals as goal

-- rows and roots are at each place
pub invariant_of-result : goal.invariant_of-result
invariant_of-result c =
    (full_is c.args.op.now c.domain-domain.result c.args.n c.loop-p.p c.in_ok-natural_order.field-0.items c.loop-p.places.items c.domain-domain.ensures.table c.requires.maltsev c.domain-domain.ensures.domain
    c.requires.some_places c.requires.few_places c.in_ok-natural_order.ensures.natural (omega (arith, c.loop-p-test.false)) c.loop-p.invariant c.loop-p.auto.p-end).view

-- the table stands for its set
pub returns-clause-sound : goal.returns-clause-sound
returns-clause-sound c =
    (full_is c.args.op.now c.domain-domain.result c.args.n c.loop-p.p c.in_ok-natural_order.field-0.items c.loop-p.places.items c.domain-domain.ensures.table c.requires.maltsev c.domain-domain.ensures.domain
    c.requires.some_places c.requires.few_places c.in_ok-natural_order.ensures.natural (omega (arith, c.loop-p-test.false)) c.loop-p.invariant c.loop-p.auto.p-end).sound

-- of all tuples
pub returns-clause-set : goal.returns-clause-set
returns-clause-set c =
    (full_is c.args.op.now c.domain-domain.result c.args.n c.loop-p.p c.in_ok-natural_order.field-0.items c.loop-p.places.items c.domain-domain.ensures.table c.requires.maltsev c.domain-domain.ensures.domain
    c.requires.some_places c.requires.few_places c.in_ok-natural_order.ensures.natural (omega (arith, c.loop-p-test.false)) c.loop-p.invariant c.loop-p.auto.p-end).set
