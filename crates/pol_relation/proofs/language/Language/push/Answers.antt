use Rattle.std.proofs.Common.{◌≡◌, ◌++◌, [], ◌∷◌, length, ap, sym, ◌∙◌, arith, length-append}
use Rattle.std.proofs.lemmas.List.{length-map}
use Rattle.pol_relation.specs.Relations.{NamedRelation, IsLanguage, IsRelationOver}
use Rattle.pol_relation.proofs.RelationLemmas.{IsLanguage-with_relation}
use Rattle.pol_relation.specs.Named.{named_entry, named_relations}
use Rattle.pol_relation.proofs.NameLemmas.{named_relations-insert}
use Rattle.pol_relation.proofs.language.Language.push.Goals as goal

-- the relation is named last
named_last : (c : goal.Joined-branch-3) → named_relations c.insert.new.self.entries ≡ named_relations c.self.inside.relations.entries ++ record { name = c.args.name.now; relation = c.args.relation } ∷ []
named_last c =
    let new = rw (← c.in_ok-name.ensures.items, ← c.self.view_is) at c.requires.new in
    ap named_relations c.in_ok-insert.ensures.entries ∙ named_relations-insert c.self.inside.relations c.in_ok-name.name c.args.relation new ∙ (λ i. named_relations c.self.inside.relations.entries ++ record { name = c.in_ok-name.ensures.items i; relation = c.args.relation } ∷ [])

pub invariant_of-self-2 : goal.invariant_of-self-2
invariant_of-self-2 c =
    let over : IsRelationOver c.self.inside.domain c.args.relation = record { is_relation = rw c.relation.view_is at c.relation.invariant; same_domain = c.requires.domain ∙ sym (λ i. (c.self.view_is i).domain) } in
    let new = rw (← c.self.view_is) at c.requires.new in
    let room = rw (← c.self.view_is) at c.requires.room in
    let long = ap length (named_last c) in
    let language : IsLanguage (record { domain = c.self.inside.domain; relations = named_relations c.insert.new.self.entries }) = rw (named_last c) (IsLanguage-with_relation _ c.args.name.now c.args.relation c.self.invariant.0 over new) in
    (language, omega (arith, room, long, length-append (named_relations c.self.inside.relations.entries) (record { name = c.args.name.now; relation = c.args.relation } ∷ []), length-map {B = NamedRelation} c.insert.new.self.entries (λ e. named_entry e)))

pub returns-clause-ok : goal.returns-clause-ok
returns-clause-ok c = rw (← c.self.view_is) (λ i. record { domain = c.self.inside.domain; relations = named_last c i })
