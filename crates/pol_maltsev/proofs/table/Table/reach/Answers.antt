use Rattle.std.proofs.Common.{◌≡◌, ◌≤◌, ap, arith, length, take, List, ℕ}
use Rattle.std.proofs.lemmas.Result.{IfOk-weaker}
use Rattle.pol_optable.specs.Operations.{Operation}
use Rattle.pol_maltsev.specs.Compacts.{AreReached}
use Rattle.pol_maltsev.specs.Orders.{AreFirst}
use Rattle.pol_maltsev.specs.Views.{TableView, InTable}
use Rattle.pol_maltsev.proofs.ScopeLemmas.{places_few, places_below, places_apart}
use Rattle.pol_maltsev.proofs.ReachLemmas.{reached_same, reached_at}
use Rattle.pol_maltsev.proofs.table.Table.reach.Goals as goal

-- an order has each of the places once
pub to_front-requires-clause-few : goal.to_front-requires-clause-few
to_front-requires-clause-few c =
    let v = c.args.self.now in
    let first = c.in_ok-first.first in
    rw c.as_slice-front.ensures.items (places_few v.width v.order c.args.places.now first.numbers first.places c.requires.sound.table.order c.in_ok-first.ensures.first c.requires.below)

pub to_front-requires-clause-below : goal.to_front-requires-clause-below
to_front-requires-clause-below c =
    let first = c.in_ok-first.first in
    rw c.as_slice-front.ensures.items (places_below c.args.self.now.width c.args.places.now first.numbers first.places c.in_ok-first.ensures.first c.requires.below)

pub to_front-requires-clause-apart : goal.to_front-requires-clause-apart
to_front-requires-clause-apart c =
    let first = c.in_ok-first.first in
    rw c.as_slice-front.ensures.items (places_apart c.args.places.now first.numbers first.places c.in_ok-first.ensures.first)

pub fronts-requires-clause-few : goal.fronts-requires-clause-few
fronts-requires-clause-few c =
    let v = c.args.self.now in
    let first = c.in_ok-first.first in
    let few : length first.places ≤ v.width = places_few v.width v.order c.args.places.now first.numbers first.places c.requires.sound.table.order c.in_ok-first.ensures.first c.requires.below in
    rw (c.as_slice-front.ensures.items, c.to_front.ensures.reordered.shape.width) few

pub overflow_cast-front : goal.overflow_cast-front
overflow_cast-front c =
    let v = c.args.self.now in
    let first = c.in_ok-first.first in
    let few : length first.places ≤ v.width = places_few v.width v.order c.args.places.now first.numbers first.places c.requires.sound.table.order c.in_ok-first.ensures.first c.requires.below in
    omega (arith, few, ap (λ (places : List ℕ). length places) c.as_slice-front.ensures.items, c.requires.sound.view.few_places)

-- what is read at the first places is read at all of them
pub returns : goal.returns
returns c = record {
  reached = IfOk-weaker c.fronts.result (λ found. AreReached (InTable f new) (take (length c.as_slice-front.result.now) new.order) found.items) (λ found. AreReached (InTable f old) c.args.places.now found.items)
      (λ found h. reached_same (InTable f new) (InTable f old) c.args.places.now found.items c.to_front.ensures.reordered.set
      (reached_at (InTable f new) new.order c.args.places.now c.in_ok-first.first.numbers c.in_ok-first.first.places (length c.as_slice-front.result.now) found.items c.in_ok-first.ensures.first front end few h)) c.fronts.ensures.reached;
}
  where
    f : Operation
    f = c.args.op.now

    old : TableView
    old = c.args.self.now

    new : TableView
    new = c.to_front.new.self

    front : AreFirst c.in_ok-first.first.places new.order
    front = rw c.as_slice-front.ensures.items at c.in_ok-to_front.ensures.front

    end : length c.as_slice-front.result.now ≡ length c.in_ok-first.first.places
    end = ap (λ (places : List ℕ). length places) c.as_slice-front.ensures.items

    few : length c.as_slice-front.result.now ≤ length new.order
    few =
        let low : length c.in_ok-first.first.places ≤ old.width = places_few old.width old.order c.args.places.now c.in_ok-first.first.numbers c.in_ok-first.first.places c.requires.sound.table.order c.in_ok-first.ensures.first c.requires.below in
        omega (arith, low, end, c.to_front.ensures.reordered.shape.width, c.to_front.ensures.reordered.sound.view.ordered)
