use Rattle.std.proofs.Common.{◌≡◌, ◌<◌, ◌∙◌, arith, ◌+◌, [], get_or}
use Rattle.std.specs.Prelude.{slice_index}
use Rattle.std.proofs.lemmas.List.{get_or_default}
use Rattle.pol_base.specs.Tuples.{IsTuple}
use Rattle.pol_maltsev.specs.Orders.{InFront}
use Rattle.pol_maltsev.specs.Restrictions.{SharesBase, first_row}
use Rattle.pol_maltsev.proofs.FullLemmas.{full_made}
use Rattle.pol_maltsev.proofs.EarlyLemmas.{class_found, class_none, none_more}
use Rattle.pol_maltsev.proofs.table.Table.early_class.Goals as goal

-- the first value that it is joined to
pub returns-in-Some : goal.returns-in-Some
returns-in-Some c =
    let v = c.args.self.now in
    let rows = c.args.rows.now in
    let known = c.in-Some.ensures.joined.sharer.known in
    let row : c.in_ok-from_slice.field-0 ≡ get_or rows c.in-Some.i [] =
    c.in_ok-from_slice.ensures.ok ∙ c.as_slice.ensures.values ∙ c.index-rows-i.is ∙ get_or_default rows c.in-Some.i c.index-rows-i.result [] known in
    let low : c.loop-b.b < v.domain = omega (arith, c.loop-b-test.true, c.requires.value) in
    record {
      made = rw row (class_found v.domain v.width rows (InFront v.order c.args.k) (slice_index v.order c.args.k) c.loop-b.b c.args.c c.in-Some.i (c.requires.rows c.in-Some.i [] known) low c.in-Some.ensures.joined c.loop-b.invariant);
    }

-- one value more that it is not joined to
pub loop-b-preserved : goal.loop-b-preserved
loop-b-preserved c =
    let v = c.args.self.now in
    let rows = c.args.rows.now in
    none_more (SharesBase rows (InFront v.order c.args.k) (slice_index v.order c.args.k) (first_row rows (slice_index v.order c.args.k)) c.args.c) c.loop-b.b c.loop-b.invariant c.in_default.ensures.none

-- no row has the value
pub returns : goal.returns
returns c =
    let v = c.args.self.now in
    let rows = c.args.rows.now in
    let end : c.loop-b.b ≡ c.args.c + 1 = omega (arith, c.loop-b-test.false, c.loop-b.auto.b-end) in
    let size : c.size-d.result ≡ v.domain = c.size-d.ensures.size ∙ c.domain.ensures.domain in
    let tuple : IsTuple v.domain v.width c.in_ok-unit.field-0 = rw (c.in_ok-unit.ensures.unit, c.width.ensures.width)
    (full_made v.domain v.width c.place.result c.args.c c.place.ensures.below c.requires.value).tuple in
    record {
      made = rw size (class_none v.domain v.width rows (InFront v.order c.args.k) (slice_index v.order c.args.k) c.args.c c.in_ok-unit.field-0 tuple (rw end at c.loop-b.invariant));
    }
