use Rattle.std.proofs.Common.{◌<◌, length, Contains, Some, None, true≢false, sym, ◌∙◌, arith}
use Rattle.std.proofs.lemmas.List.{length-map}
use Rattle.pol_base.proofs.LookupLemmas.{lookup-place_in}
use Rattle.pol_relation.specs.Relations.{LanguageView, names_of}
use Rattle.pol_relation.specs.Named.{named_entry, named_relations}
use Rattle.pol_relation.proofs.NameLemmas.{name-at_position, lookup-from_Contains}
use Rattle.pol_relation.proofs.NameLookups.{relation-lookup, names-distinct}
use Rattle.pol_relation.proofs.language.Language.find.Goals as goal

pub returns-in_err-place-clause-none : goal.returns-in_err-place-clause-none
returns-in_err-place-clause-none c =
    rw c.from_residual.ensures (λ member.
    let old = rw (← c.self.view_is) at member in
    true≢false (sym (lookup-from_Contains c.args.name.now c.self.inside.relations.entries old) ∙ sym c.in_err-place.ensures.found))

pub returns-in_err-place-clause-place : goal.returns-in_err-place-clause-place
returns-in_err-place-clause-place c =
    let entries = c.self.inside.relations.entries in
    let seen : LanguageView = record { domain = c.self.inside.domain; relations = named_relations entries } in
    let none : Contains (names_of seen) c.args.name.now → ⊥ = λ member. true≢false (sym (lookup-from_Contains c.args.name.now entries member) ∙ sym c.in_err-place.ensures.found) in
    rw (c.from_residual.ensures, ← c.self.view_is) (lookup-place_in (names_of seen) c.args.name.now None (names-distinct seen c.self.invariant.0) (relation-lookup seen c.args.name.now None tt tt none))

pub returns-clause-place : goal.returns-clause-place
returns-clause-place c =
    let entries = c.self.inside.relations.entries in
    let seen : LanguageView = record { domain = c.self.inside.domain; relations = named_relations entries } in
    let known : c.in_ok-place.place < length (named_relations entries) = omega (arith, c.in_ok-place.ensures.within, length-map entries (λ e. named_entry e)) in
    let found = name-at_position c.args.name.now entries c.in_ok-place.place (sym c.in_ok-place.ensures.index) in
    rw (← c.self.view_is) (lookup-place_in (names_of seen) c.args.name.now (Some c.in_ok-place.place) (names-distinct seen c.self.invariant.0) (relation-lookup seen c.args.name.now (Some c.in_ok-place.place) known found tt))

pub returns-clause-found : goal.returns-clause-found
returns-clause-found c = rw (← c.self.view_is) (name-at_position c.args.name.now c.self.inside.relations.entries c.in_ok-place.place (sym c.in_ok-place.ensures.index))
