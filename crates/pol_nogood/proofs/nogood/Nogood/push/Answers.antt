use Rattle.std.proofs.Common.{◌∷◌, [], ◌++◌, List, refl, ap, ◌∙◌, arith}
use Rattle.pol_nogood.specs.Nogoods.{Pair}
use Rattle.pol_nogood.proofs.PackedPairs.{length_seen, packed_push}
use Rattle.pol_nogood.proofs.nogood.Nogood.push.Goals as goal

pub returns-clause-added : goal.returns-clause-added
returns-clause-added c =
    let n = c.self.inside in
    let long = length_seen n.variables n.values n.len c.args.self.now c.self.view_is (omega (arith, c.self.invariant)) (omega (arith, c.self.invariant)) in
    (λ added. omega (arith, c.self.invariant, c.if-place-eq-MOST_PAIRS.false), λ few. refl)

pub returns-clause-pair : goal.returns-clause-pair
returns-clause-pair c =
    let n = c.self.inside in
    packed_push n.variables n.values n.len c.args.variable c.args.value (omega (arith, c.self.invariant, c.if-place-eq-MOST_PAIRS.false)) (omega (arith, c.self.invariant, c.if-place-eq-MOST_PAIRS.false))
    ∙ ap (λ (pairs : List Pair). pairs ++ record { variable = c.args.variable; value = c.args.value } ∷ []) c.self.view_is
