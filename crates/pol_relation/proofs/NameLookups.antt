-- The name of a relation, looked up among the names of its language.
use Rattle.std.proofs.Common.{◌≡◌, ℕ, List, [], Contains, Option, Some, None, arith, ◌<◌, length, sym, ◌∙◌, ◌≢◌, AllPairs}
use Rattle.std.specs.Prelude.{IfSome, IfNone}
use Rattle.std.proofs.lemmas.List.{length-map, get_or-map}
use Rattle.pol_base.specs.Lists.{place_in}
use Rattle.pol_base.proofs.LookupLemmas.{IsLookup, place_in-found, AllPairs-map}
use Rattle.pol_relation.specs.Relations.{LanguageView, IsLanguage, names_of, name_of, no_named}

-- a name that was found is that of a relation
pub place_in-known : (lang : LanguageView) (name : List ℕ) (r : ℕ) → place_in (names_of lang) name ≡ Some r → r < length lang.relations
place_in-known lang name r e =
    let place = place_in-found (names_of lang) name r e in
    omega (arith, place.inside, length-map lang.relations (λ named. named.name))

pub place_in-name_of : (lang : LanguageView) (name : List ℕ) (r : ℕ) → place_in (names_of lang) name ≡ Some r → name_of lang r ≡ name
place_in-name_of lang name r e =
    let place = place_in-found (names_of lang) name r e in
    sym (get_or-map (λ named. named.name) lang.relations r no_named name (place_in-known lang name r e)) ∙ place.found

-- the look-up of a relation's name
pub relation-lookup : (lang : LanguageView) (name : List ℕ) (found : Option ℕ) → IfSome found (λ i. i < length lang.relations) → IfSome found (λ i. name_of lang i ≡ name) → IfNone found (Contains (names_of lang) name → ⊥) → IsLookup (names_of lang) name found
relation-lookup lang name (Some i) known same absent = record { known = omega (arith, length-map lang.relations (λ e. e.name)); same = get_or-map (λ e. e.name) lang.relations i no_named [] known ∙ same; absent = tt }
relation-lookup lang name None known same absent = record { known = tt; same = tt; absent = absent }

pub names-distinct : (lang : LanguageView) → IsLanguage lang → AllPairs (λ xs ys. xs ≢ ys) (names_of lang)
names-distinct lang is = AllPairs-map (λ e. e.name) lang.relations no_named is.distinct
