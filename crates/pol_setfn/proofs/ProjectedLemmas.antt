-- The constraints of sets of values at the places of rows: who meets them, and what follows of those that are added.
use Rattle.std.proofs.Common.{◌≡◌, ℕ, zero, suc, ◌+◌, ◌-◌, ◌<◌, ◌≤◌, ◌^◌, ◌⊎◌, inl, inr, List, [], ◌∷◌, ◌++◌, length, take, map, replicate, get_or, All, Contains, Option, Some, None, arith, sym, ap, ◌∙◌, subst}
use Rattle.std.specs.Prelude.{IfNone}
use Rattle.std.proofs.lemmas.Bool.{cases_lt}
use Rattle.std.proofs.lemmas.List.{length-map, get_or_default, get_or-take}
use Rattle.std.proofs.lemmas.List.Elements.{All-push, All-map, All-contains, Contains-get_or}
use Rattle.pol_base.specs.Tuples.{IsBefore}
use Rattle.pol_base.specs.Masks.{IsMask, AreMasks}
use Rattle.pol_base.proofs.MaskLemmas.{mask_more}
use Rattle.pol_relation.specs.Relations.{LanguageView, RelationView, IsLanguage, IsRelation, IsRelationOver, no_named, relation_of, rows_of}
use Rattle.pol_relation.specs.Instances.{ConstraintView, FitsAt, Meets, read_at}
use Rattle.pol_optable.specs.SetFunctions.{SetFunctionView, value_of_set, PreservesSets, IsSetPolymorphism}
use Rattle.pol_optable.specs.SetBreaks.{IsProjection}
use Rattle.pol_optable.proofs.ProjectionLemmas.{projection_long, projection_masks, preserves_without_breaks, break_refutes}
use Rattle.pol_csp.specs.Narrowing.{MeetsAll}
use Rattle.pol_csp.specs.Searching.{FollowFrom}
use Rattle.pol_setfn.specs.Projected.{IsProjected, AddsProjected, IsBrokenAt, KeepsFrom, PreservesAmong}

-- ---- one constraint

-- what is read at the cells of the sets are their values
reads_sets : (d : ℕ) (cells masks : List ℕ)
    → read_at cells (map (λ mask. mask - 1) masks) ≡ map (λ mask. value_of_set (record { domain = d; cells = cells }) mask) masks
reads_sets d cells [] = λ i. []
reads_sets d cells (mask ∷ masks) = ap (λ values. get_or cells (mask - 1) 0 ∷ values) (reads_sets d cells masks)

-- a set function that preserves the language meets the constraint
pub met_sets : (lang : LanguageView) (cells : List ℕ) (c : ConstraintView) → IsProjected lang c
    → IsSetPolymorphism (record { domain = lang.domain; cells = cells }) lang → Meets lang c cells
met_sets lang cells c is keeps =
    let g : SetFunctionView = record { domain = lang.domain; cells = cells } in
    let p = is.projection in
    let kept : Contains (rows_of lang c.relation) (map (λ mask. value_of_set g mask) is.masks) =
    subst (λ masks. Contains (rows_of lang c.relation) (map (λ mask. value_of_set g mask) masks)) p.masks_are
    (keeps c.relation no_named is.known p.rows p.some p.members) in
    subst (λ e. Meets lang e cells) (sym is.is)
    (subst (Contains (rows_of lang c.relation)) (sym (reads_sets lang.domain cells is.masks)) kept)

-- its scope has cells of the set function
fits_sets : (lang : LanguageView) (n : ℕ) (c : ConstraintView) → IsLanguage lang → n ≡ 2 ^ lang.domain - 1
    → IsProjected lang c → FitsAt lang n c
fits_sets lang n c language all is = subst (FitsAt lang n) (sym is.is) (record {
  known = is.known;
  long = length-map is.masks (λ mask. mask - 1) ∙ projection_long r is.masks is.projection;
  below = All-map (λ x. x < n) (λ mask. mask - 1) is.masks below;
})
  where
    r : RelationView
    r = relation_of lang c.relation

    over : IsRelationOver lang.domain r
    over = language.relations_are c.relation no_named is.known

    cell_below : (m p : ℕ) → 0 < m → m < p → n ≡ p - 1 → m - 1 < n
    cell_below m p some less is = omega (arith, some, less, is)

    below : All (λ mask. mask - 1 < n) is.masks
    below k none inside =
        let are : AreMasks lang.domain is.masks = subst (λ d. AreMasks d is.masks) over.same_domain (projection_masks r is.masks is.projection over.is_relation.tuples) in
        let mask = are k none inside in
        cell_below (get_or is.masks k none) (2 ^ lang.domain) mask.some mask.below all

-- ---- the constraints that are added

pub adds_none : (lang : LanguageView) (pool : List ConstraintView) → AddsProjected lang pool pool
adds_none lang pool i none h = inl (Contains-get_or pool i none h)

pub adds_trans : (lang : LanguageView) (old now new : List ConstraintView) → AddsProjected lang old now → AddsProjected lang now new → AddsProjected lang old new
adds_trans lang old now new before after i none h = by (after i none h)
  where
    c : ConstraintView
    c = get_or new i none

    by : Contains now c ⊎ IsProjected lang c → Contains old c ⊎ IsProjected lang c
    by (inl here) = All-contains (λ e. Contains old e ⊎ IsProjected lang e) now c before here
    by (inr projected) = inr projected

pub adds_push : (lang : LanguageView) (number : ℕ) (masks scope : List ℕ) (pool new : List ConstraintView) → number < length lang.relations
    → IsProjection (relation_of lang number) masks
    → scope ≡ map (λ mask. mask - 1) masks
    → new ≡ pool ++ record { relation = number; scope = scope } ∷ []
    → AddsProjected lang pool new
adds_push lang number masks scope pool new known projection is_scope is =
    let P : ConstraintView → Type 0 = λ c. Contains pool c ⊎ IsProjected lang c in
    subst (All P) (sym is) (All-push P pool (record { relation = number; scope = scope }) (adds_none lang pool) (inr (record {
      masks = masks;
      known = known;
      projection = projection;
      is = ap (λ s. record { relation = number; scope = s }) is_scope;
    })))

-- they follow from what preserves the language
pub followed : (lang : LanguageView) (n : ℕ) (W : List ℕ → Type 0) (old new : List ConstraintView) → IsLanguage lang → n ≡ 2 ^ lang.domain - 1
    → ((cells : List ℕ) → W cells → IsSetPolymorphism (record { domain = lang.domain; cells = cells }) lang)
    → FollowFrom W lang n old → AddsProjected lang old new → FollowFrom W lang n new
followed lang n W old new language all keeps follow added = record { fits = fits; met = met }
  where
    fits : All (FitsAt lang n) new
    fits i none h = by (added i none h)
      where
        by : Contains old (get_or new i none) ⊎ IsProjected lang (get_or new i none) → FitsAt lang n (get_or new i none)
        by (inl here) = All-contains (FitsAt lang n) old (get_or new i none) follow.fits here
        by (inr projected) = fits_sets lang n (get_or new i none) language all projected

    met : (cells : List ℕ) → W cells → MeetsAll lang new cells
    met cells wanted i none h = by (added i none h)
      where
        by : Contains old (get_or new i none) ⊎ IsProjected lang (get_or new i none) → Meets lang (get_or new i none) cells
        by (inl here) = All-contains (λ c. Meets lang c cells) old (get_or new i none) (follow.met cells wanted) here
        by (inr projected) = met_sets lang cells (get_or new i none) projected (keeps cells wanted)

-- ---- the look for sets that are broken

pub broken_language : (g : SetFunctionView) (lang : LanguageView) (number : ℕ) (masks : List ℕ) → IsBrokenAt g lang number masks → ¬ IsSetPolymorphism g lang
broken_language g lang number masks at keeps =
    break_refutes g (relation_of lang number) (take (relation_of lang number).arity masks) at.broken (keeps number no_named at.known)

-- no list comes before one of zeros
zeros_none : (n m : ℕ) (xs : List ℕ) → IsBefore xs (take n (replicate m 0)) → ⊥
zeros_none zero m [] before = before
zeros_none zero m (x ∷ xs) before = before
zeros_none (suc n) zero [] before = before
zeros_none (suc n) zero (x ∷ xs) before = before
zeros_none (suc n) (suc m) [] before = before
zeros_none (suc n) (suc m) (x ∷ xs) before = elim before [ inl less ↦ omega (arith, less) | inr equal ↦ zeros_none n m xs equal.1 ]

-- a relation without broken sets from the first masks on is preserved
pub kept_whole : (g : SetFunctionView) (lang : LanguageView) (number : ℕ) → KeepsFrom g lang number (replicate 6 0)
    → number < length lang.relations → PreservesSets g (relation_of lang number)
kept_whole g lang number kept known =
    preserves_without_breaks g (relation_of lang number) (λ masks broken. zeros_none (relation_of lang number).arity 6 masks (kept known masks broken))

pub among_more : (g : SetFunctionView) (lang : LanguageView) (first now : ℕ) → PreservesAmong g lang first now → KeepsFrom g lang now (replicate 6 0)
    → PreservesAmong g lang first (now + 1)
among_more g lang first now before here number low less known = by (cases_lt number now)
  where
    by : (number < now) ⊎ (now ≤ number) → PreservesSets g (relation_of lang number)
    by (inl earlier) = before number low earlier known
    by (inr same) =
        let equal : now ≡ number = omega (arith, less, same) in
        kept_whole g lang number (subst (λ n. KeepsFrom g lang n (replicate 6 0)) equal here) known

-- the relations behind one and those up to it are all
pub preserved_around : (g : SetFunctionView) (lang : LanguageView) (turn count : ℕ) → count ≡ length lang.relations
    → PreservesAmong g lang (turn + 1) count → PreservesAmong g lang 0 (turn + 1) → IsSetPolymorphism g lang
preserved_around g lang turn count all later earlier number none inside =
    subst (λ named. PreservesSets g named.relation) (sym (get_or_default lang.relations number none no_named inside)) (by (cases_lt number (turn + 1)))
  where
    by : (number < turn + 1) ⊎ (turn + 1 ≤ number) → PreservesSets g (relation_of lang number)
    by (inl low) = earlier number (omega arith) low inside
    by (inr high) = later number high (omega (arith, inside, all)) inside

pub answered_around : {X : Type 0} (g : SetFunctionView) (lang : LanguageView) (turn count : ℕ) (answer : Option X) → count ≡ length lang.relations
    → PreservesAmong g lang (turn + 1) count → IfNone answer (PreservesAmong g lang 0 (turn + 1)) → IfNone answer (IsSetPolymorphism g lang)
answered_around g lang turn count None all later earlier = preserved_around g lang turn count all later earlier
answered_around g lang turn count (Some found) all later earlier = tt

-- a mask at a place of the relation is one of few
pub mask_few : (r : RelationView) (masks : List ℕ) (place : ℕ) → IsRelation r → IsProjection r (take r.arity masks) → place < r.arity
    → get_or masks place 0 < 32
mask_few r masks place is projection inside =
    let front = projection_long r (take r.arity masks) projection in
    let mask : IsMask r.domain (get_or (take r.arity masks) place 0) = projection_masks r (take r.arity masks) projection is.tuples place 0 (rw front inside) in
    subst (λ m. m < 32) (get_or-take r.arity masks place 0 inside) (mask_more r.domain 5 (get_or (take r.arity masks) place 0) is.domain_is.few mask).below
