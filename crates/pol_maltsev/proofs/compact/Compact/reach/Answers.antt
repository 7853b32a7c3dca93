use Rattle.std.proofs.Common.{◌≡◌, ◌≤◌, arith, length, All, List, ℕ}
use Rattle.std.proofs.lemmas.List.Elements.{All-weaker}
use Rattle.std.proofs.lemmas.Result.{IfOk-weaker}
use Rattle.pol_base.specs.Tuples.{IsTuple}
use Rattle.pol_rows.specs.RowLists.{RowsView}
use Rattle.pol_maltsev.specs.Compacts.{AreReached, Members}
use Rattle.pol_maltsev.specs.Views.{TableView, InTable}
use Rattle.pol_maltsev.proofs.WalkLemmas.{member_tuple}
use Rattle.pol_maltsev.proofs.ReachLemmas.{reached_same, few_reached}
use Rattle.pol_maltsev.proofs.compact.Compact.reach.Goals as goal

-- members are tuples
pub rows_of-requires-clause-tuples : goal.rows_of-requires-clause-tuples
rows_of-requires-clause-tuples c = rw (c.as_slice.ensures.value, c.domain.ensures.domain, c.width.ensures.width, c.rows-rows.ensures.rows) tuples
  where
    r : RowsView
    r = c.args.self.now

    v : TableView
    v = c.in_ok-of_rows.field-0

    tuples : All (IsTuple r.domain r.width) c.in_ok-found.found.items
    tuples = All-weaker (InTable c.args.op.now v) (IsTuple r.domain r.width)
        (λ t in_t. rw (← c.rows-rows.ensures.rows, c.in_ok-of_rows.ensures.shape.domain, c.in_ok-of_rows.ensures.shape.width) (member_tuple c.args.op.now v t c.in_ok-of_rows.ensures.sound in_t))
        c.in_ok-found.found.items c.in_ok-found.ensures.reached.members

-- of different lists there are few
pub rows_of-requires-clause-few : goal.rows_of-requires-clause-few
rows_of-requires-clause-few c =
    let v = c.in_ok-of_rows.field-0 in
    let few : length c.in_ok-found.found.items ≤ 78125 = few_reached (InTable c.args.op.now v) v.domain v.width c.args.places.now c.in_ok-found.found.items (λ t in_t. member_tuple c.args.op.now v t c.in_ok-of_rows.ensures.sound in_t)
    c.in_ok-of_rows.ensures.sound.view.domain_is.few c.requires.few (rw (← c.in_ok-of_rows.ensures.shape.width, c.rows-rows.ensures.rows) c.requires.below) c.in_ok-found.ensures.reached in
    rw c.as_slice.ensures.value (omega (arith, few))

-- the table stands for the members
pub returns-clause-reached : goal.returns-clause-reached
returns-clause-reached c =
    let f = c.args.op.now in
    let v = c.in_ok-of_rows.field-0 in
    let T : List ℕ → Type 0 = Members f c.args.self.now in
    let reached : AreReached T c.args.places.now c.in_ok-found.found.items = reached_same (InTable f v) T c.args.places.now c.in_ok-found.found.items (rw c.rows-rows.ensures.rows at c.in_ok-of_rows.ensures.set) c.in_ok-found.ensures.reached in
    IfOk-weaker c.rows_of.result (λ r. r ≡ record { domain = c.domain.result; width = c.width.result; rows = c.as_slice.result.now }) (λ r. AreReached T c.args.places.now r.rows)
    (λ r is. rw (is, c.as_slice.ensures.value) reached) c.rows_of.ensures.rows
