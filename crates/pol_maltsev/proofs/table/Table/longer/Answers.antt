use Rattle.std.proofs.Common.{◌≡◌, ◌<◌, ◌∷◌, [], ◌∙◌, arith, length, get_or, take, ◌+◌}
use Rattle.std.proofs.lemmas.List.{get_or_default}
use Rattle.pol_maltsev.specs.Compacts.{AreReached}
use Rattle.pol_maltsev.specs.Restrictions.{IsRestricted}
use Rattle.pol_maltsev.specs.Views.{InTable}
use Rattle.pol_maltsev.proofs.BranchLemmas.{longer_more, longer_all}
use Rattle.pol_maltsev.proofs.table.Table.longer.Goals as goal

-- one list more
pub loop-t-preserved : goal.loop-t-preserved
loop-t-preserved c =
    let T = InTable c.args.op.now c.args.self.now in
    let ord = c.args.self.now.order in
    let shorter = c.args.shorter.now in
    let i = c.loop-t.t-index in
    let low : i < length shorter = c.loop-t-test.true in
    let is : c.t-item.result ≡ get_or shorter i [] = c.t-item.is ∙ get_or_default shorter i c.t-item.result [] low in
    let one : AreReached (IsRestricted T (c.t-item.result ∷ []) ord c.args.k) (take (c.args.k + 1) ord) c.in_ok-branches.field-0.items = rw c.as_slice.ensures.values at c.in_ok-branches.ensures.reached in
    rw c.in_ok-append.ensures.items
    (longer_more T ord c.args.k i shorter c.t-item.result c.loop-t.found.items c.in_ok-branches.field-0.items (omega (arith, c.requires.position, c.requires.sound.view.ordered)) low is c.requires.shorter c.loop-t.invariant one)

-- all lists
pub returns : goal.returns
returns c = record {
  reached = longer_all (InTable c.args.op.now c.args.self.now) c.args.self.now.order c.args.k c.loop-t.t-index c.args.shorter.now c.loop-t.found.items (omega (arith, c.requires.position, c.requires.sound.view.ordered))
      (omega (arith, c.loop-t-test.false)) c.requires.shorter c.loop-t.invariant;
}
