use Rattle.std.proofs.Common.{rules, ◌≡◌, ◌<◌, [], length, get_or, Contains, AllPairs, ◌≢◌, subst, Some, None}
use Rattle.pol_base.proofs.LookupLemmas.{lookup-place_in}
use Rattle.pol_relation.proofs.instance.Instance.find_variable.Goals as goal

pub returns-in_err-place-clause-place : goal.returns-in_err-place-clause-place
returns-in_err-place-clause-place c =
    let absent : Contains c.args.self.now.variables c.args.name.now → ⊥ = search rules in
    let distinct = subst (λ names. AllPairs (λ x y. x ≢ y) names) (λ i. (c.self.view_is i).variables) c.self.invariant.0.distinct in
    rw c.from_residual.ensures (lookup-place_in c.args.self.now.variables c.args.name.now None distinct (record { known = tt; same = tt; absent = absent }))

pub returns-clause-place : goal.returns-clause-place
returns-clause-place c =
    let known : c.in_ok-place.place < length c.args.self.now.variables = search rules in
    let found : get_or c.args.self.now.variables c.in_ok-place.place [] ≡ c.args.name.now = search rules in
    let distinct = subst (λ names. AllPairs (λ x y. x ≢ y) names) (λ i. (c.self.view_is i).variables) c.self.invariant.0.distinct in
    lookup-place_in c.args.self.now.variables c.args.name.now (Some c.in_ok-place.place) distinct (record { known = known; same = found; absent = tt })
