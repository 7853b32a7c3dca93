use Rattle.std.proofs.Common.{◌≤◌, length, arith}
use Rattle.pol_maltsev.proofs.ScopeLemmas.{places_few, places_below, places_apart, firsts_of_places, many_places}
use Rattle.pol_maltsev.proofs.table.Table.scope_to_front.Goals as goal

-- an order has each place of the scope once
pub to_front-requires-clause-few : goal.to_front-requires-clause-few
to_front-requires-clause-few c =
    let found = c.in_ok-numbers.field-0 in
    rw c.as_slice.ensures.items (places_few c.args.self.now.width c.args.self.now.order c.args.scope.now found.numbers found.places c.requires.sound.table.order c.in_ok-numbers.ensures.first c.requires.scope)

pub to_front-requires-clause-below : goal.to_front-requires-clause-below
to_front-requires-clause-below c =
    let found = c.in_ok-numbers.field-0 in
    rw c.as_slice.ensures.items (places_below c.args.self.now.width c.args.scope.now found.numbers found.places c.in_ok-numbers.ensures.first c.requires.scope)

pub to_front-requires-clause-apart : goal.to_front-requires-clause-apart
to_front-requires-clause-apart c =
    let found = c.in_ok-numbers.field-0 in
    rw c.as_slice.ensures.items (places_apart c.args.scope.now found.numbers found.places c.in_ok-numbers.ensures.first)

-- the places stand first
pub returns-clause-firsts : goal.returns-clause-firsts
returns-clause-firsts c =
    let found = c.in_ok-numbers.field-0 in
    firsts_of_places c.to_front.new.self.order c.args.scope.now found.numbers found.places c.in_ok-numbers.ensures.first (rw c.as_slice.ensures.items at c.in_ok-to_front.ensures.front)

pub returns-clause-few : goal.returns-clause-few
returns-clause-few c =
    let found = c.in_ok-numbers.field-0 in
    let few : length found.places ≤ c.args.self.now.width =
    places_few c.args.self.now.width c.args.self.now.order c.args.scope.now found.numbers found.places c.requires.sound.table.order c.in_ok-numbers.ensures.first c.requires.scope in
    omega (arith, few, many_places c.args.scope.now found.numbers found.places c.in_ok-numbers.ensures.first, c.to_front.ensures.reordered.shape.width)
