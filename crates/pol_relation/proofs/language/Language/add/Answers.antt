use Rattle.std.proofs.Common.{rules, sym, ◌∙◌}
use Rattle.std.proofs.lemmas.Result.{err_from_is_err_and}
use Rattle.pol_relation.proofs.NameLemmas.{Contains-from_lookup, new-from_lookup}
use Rattle.pol_relation.proofs.language.Language.add.Goals as goal

pub returns-then-contains_key-clause-repeated : goal.returns-then-contains_key-clause-repeated
returns-then-contains_key-clause-repeated c =
    (λ _. rw (← c.self.view_is) (Contains-from_lookup c.args.name.now c.self.inside.relations.entries (sym c.contains_key.ensures ∙ c.if-contains_key.true)), λ _. search rules)

pub push-requires-clause-new : goal.push-requires-clause-new
push-requires-clause-new c = rw (← c.self.view_is) (new-from_lookup c.args.name.now c.self.inside.relations.entries c.contains_key.result c.contains_key.ensures c.if-contains_key.false)

pub returns-in_err-push-clause-repeated : goal.returns-in_err-push-clause-repeated
returns-in_err-push-clause-repeated c =
    let new = new-from_lookup c.args.name.now c.self.inside.relations.entries c.contains_key.result c.contains_key.ensures c.if-contains_key.false in
    let p = err_from_is_err_and c.from_residual.result c.from_residual.ensures.1 in
    rw (p.1, p.2) (λ same. absurd (cc), λ member. absurd (new (rw (← c.self.view_is) at member)))

pub returns-clause-repeated : goal.returns-clause-repeated
returns-clause-repeated c =
    let new = new-from_lookup c.args.name.now c.self.inside.relations.entries c.contains_key.result c.contains_key.ensures c.if-contains_key.false in
    (λ same. absurd (cc), λ member. absurd (new (rw (← c.self.view_is) at member)))
