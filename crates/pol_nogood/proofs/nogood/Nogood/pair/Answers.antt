use Rattle.std.proofs.Common.{◌≡◌, ◌<◌, List, slice_get, Some, get_or, subst, arith}
use Rattle.pol_nogood.specs.Nogoods.{Pair}
use Rattle.pol_nogood.proofs.PackedPairs.{length_seen, packed_at}
use Rattle.pol_nogood.proofs.nogood.Nogood.pair.Goals as goal

pub bounds-self-inside-i : goal.bounds-self-inside-i
bounds-self-inside-i c =
    let n = c.self.inside in
    let long = length_seen n.variables n.values n.len c.args.self.now c.self.view_is (omega (arith, c.self.invariant)) (omega (arith, c.self.invariant)) in
    omega (arith, c.self.invariant, c.requires.known)

pub bounds-self-inside-i-2 : goal.bounds-self-inside-i-2
bounds-self-inside-i-2 c =
    let n = c.self.inside in
    let long = length_seen n.variables n.values n.len c.args.self.now c.self.view_is (omega (arith, c.self.invariant)) (omega (arith, c.self.invariant)) in
    omega (arith, c.self.invariant, c.requires.known)

pub returns : goal.returns
returns c =
    let n = c.self.inside in
    let long = length_seen n.variables n.values n.len c.args.self.now c.self.view_is (omega (arith, c.self.invariant)) (omega (arith, c.self.invariant)) in
    let inside : c.args.i < n.len = omega (arith, c.requires.known) in
    record {
      pair = subst (λ (pairs : List Pair). slice_get pairs c.args.i ≡ Some (record { variable = get_or n.variables c.args.i 0; value = get_or n.values c.args.i 0 })) c.self.view_is
          (packed_at n.variables n.values n.len c.args.i inside (omega (arith, c.self.invariant)) (omega (arith, c.self.invariant)));
    }
