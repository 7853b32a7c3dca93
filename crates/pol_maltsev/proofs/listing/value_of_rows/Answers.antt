use Rattle.std.proofs.Common.{◌≡◌, ◌<◌, ◌∙◌, arith, ◌∷◌, []}
use Rattle.pol_base.specs.Tuples.{IsTuple}
use Rattle.pol_optable.specs.Operations.{image}
use Rattle.pol_rows.specs.RowLists.{row_of as row_at}
use Rattle.pol_maltsev.specs.Views.{row_of}
use Rattle.pol_maltsev.proofs.FullLemmas.{full_made}
use Rattle.pol_maltsev.proofs.FromRowsLemmas.{value_moved, value_none, leader_smaller}
use Rattle.pol_maltsev.proofs.listing.value_of_rows.Goals as goal

-- no row has the value
pub returns-in_default : goal.returns-in_default
returns-in_default c =
    let r = c.args.rows.now in
    let size : c.size.result ≡ r.domain = c.size.ensures.size ∙ c.domain.ensures.domain in
    let tuple : IsTuple r.domain r.width c.in_ok-unit.field-0 = rw (c.in_ok-unit.ensures.unit, c.width.ensures.width) (full_made r.domain r.width c.args.i c.args.a c.requires.place c.requires.value).tuple in
    record {
      made = rw size (value_none c.args.op.now r.domain r.width c.args.i c.args.a r.rows (row_of c.args.made.now) c.in_ok-unit.field-0 c.requires.compact.same_domain c.requires.value tuple c.in_default.ensures.none);
    }

-- the row of the root is made
pub row-requires-2 : goal.row-requires-2
row-requires-2 c =
    let r = c.args.rows.now in
    record {
      kept = omega (arith, leader_smaller r.domain c.args.i c.args.a c.in-Some.root c.in-Some.one c.in-Some.other r.rows c.requires.value c.in-Some.ensures.leads c.if-root-a.false, c.requires.smaller.all_rows);
    }

-- and is a tuple
pub image-requires-clause-second : goal.image-requires-clause-second
image-requires-clause-second c =
    let r = c.args.rows.now in
    let low : c.in-Some.root < c.args.a = leader_smaller r.domain c.args.i c.args.a c.in-Some.root c.in-Some.one c.in-Some.other r.rows c.requires.value c.in-Some.ensures.leads c.if-root-a.false in
    let base : IsTuple r.domain r.width (row_of c.args.made.now c.in-Some.root) = c.requires.smaller.tuples c.in-Some.root [] (omega (arith, low, c.requires.smaller.all_rows)) in
    rw (c.row-2.ensures.row, base.long, ← c.requires.compact.same_domain) c.row-3.ensures.tuple

pub image-requires-clause-third : goal.image-requires-clause-third
image-requires-clause-third c =
    let r = c.args.rows.now in
    let low : c.in-Some.root < c.args.a = leader_smaller r.domain c.args.i c.args.a c.in-Some.root c.in-Some.one c.in-Some.other r.rows c.requires.value c.in-Some.ensures.leads c.if-root-a.false in
    let base : IsTuple r.domain r.width (row_of c.args.made.now c.in-Some.root) = c.requires.smaller.tuples c.in-Some.root [] (omega (arith, low, c.requires.smaller.all_rows)) in
    rw (c.row-2.ensures.row, base.long, ← c.requires.compact.same_domain) c.row-4.ensures.tuple

-- it is moved by the pair
pub returns : goal.returns
returns c =
    let r = c.args.rows.now in
    let low : c.in-Some.root < c.args.a = leader_smaller r.domain c.args.i c.args.a c.in-Some.root c.in-Some.one c.in-Some.other r.rows c.requires.value c.in-Some.ensures.leads c.if-root-a.false in
    let base : IsTuple r.domain r.width (row_of c.args.made.now c.in-Some.root) = c.requires.smaller.tuples c.in-Some.root [] (omega (arith, low, c.requires.smaller.all_rows)) in
    let made : c.in_ok-row.row ≡ image c.args.op.now r.width (row_of c.args.made.now c.in-Some.root ∷ row_at r.rows c.in-Some.one ∷ row_at r.rows c.in-Some.other ∷ []) =
    rw (c.row-2.ensures.row, c.row-3.ensures.row, c.row-4.ensures.row, base.long) at c.in_ok-row.ensures.image in
    record {
      made = rw made (value_moved c.args.op.now r.domain r.width c.args.i c.args.a c.in-Some.root c.in-Some.one c.in-Some.other r.rows (row_of c.args.made.now) c.requires.compact.operation
          c.requires.compact.same_domain c.requires.compact.rows_are.tuples c.in-Some.ensures.leads c.if-root-a.false base);
    }
