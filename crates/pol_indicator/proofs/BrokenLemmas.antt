-- Lists of rows of which a table makes no row, part by part, and the constraints that are added for them.
use Rattle.std.proofs.Common.{◌≡◌, ℕ, zero, suc, ◌+◌, ◌<◌, ◌≤◌, ◌⊎◌, inl, inr, List, [], ◌∷◌, ◌++◌, length, set, get_or, replicate, arith, sym, ap, ◌∙◌, All, subst, Option, Some, None}
use Rattle.std.specs.Prelude.{Contains, IfNone}
use Rattle.std.proofs.lemmas.Bool.{cases_eq, cases_lt, cases_order}
use Rattle.std.proofs.lemmas.List.{get_or_default}
use Rattle.std.proofs.lemmas.List.Elements.{All-push, All-contains, Contains-get_or}
use Rattle.pol_base.specs.Tuples.{IsTuple, IsBefore}
use Rattle.pol_relation.specs.Relations.{LanguageView, RelationView, IsLanguage, no_named, relation_of, rows_of}
use Rattle.pol_relation.proofs.RelationLemmas.{length-rows_few}
use Rattle.pol_relation.specs.Instances.{ConstraintView}
use Rattle.pol_optable.specs.Operations.{Operation, Preserves, IsPolymorphism}
use Rattle.pol_optable.specs.Breaks.{IsBroken, IsBrokenFrom, rows_at}
use Rattle.pol_optable.proofs.BreakLemmas.{zeros_first, broken_refutes, preserves_from_none, rows_at-rows}
use Rattle.pol_indicator.specs.Indicators.{IsListed, constraint_of_rows}
use Rattle.pol_indicator.specs.Closing.{KeepsBetween, KeepsPart, AddsListed}
use Rattle.pol_indicator.proofs.ColumnLemmas.{length-rows_at}

-- no list comes before the first one that begins with its first number or a lower one
front_first : (K first : ℕ) (numbers : List ℕ) → first ≤ get_or numbers 0 0 → IsBefore numbers (set (replicate K 0) 0 first) → ⊥
front_first zero first [] low before = before
front_first zero first (x ∷ xs) low before = before
front_first (suc K) first [] low before = before
front_first (suc K) first (x ∷ xs) low before = elim before [ inl less ↦ omega (arith, less, low) | inr equal ↦ zeros_first K xs equal.1 ]

-- where no list is broken from there on before `end`, none is between
pub between : (K : ℕ) (f : Operation) (r : RelationView) (first end : ℕ) (answer : Option (List ℕ))
    → IfNone answer ((numbers : List ℕ) → IsBrokenFrom f r (set (replicate K 0) 0 first) numbers → end ≤ get_or numbers 0 0)
    → IfNone answer (KeepsBetween f r first end)
between K f r first end None none = λ numbers broken low. none numbers (record { broken = broken; behind = front_first K first numbers low })
between K f r first end (Some numbers) none = none

-- a broken list of a relation of the language refutes that the operation preserves it
pub broken_language : (f : Operation) (lang : LanguageView) (relation : ℕ) (numbers : List ℕ) → relation < length lang.relations
    → IsBroken f (relation_of lang relation) numbers → ¬ IsPolymorphism f lang
broken_language f lang relation numbers known broken keeps = broken_refutes f (relation_of lang relation) numbers broken (keeps relation no_named known)

pub adds_none : (lang : LanguageView) (K : ℕ) (pool : List ConstraintView) → AddsListed lang K pool pool
adds_none lang K pool i none h = inl (Contains-get_or pool i none h)

pub adds_trans : (lang : LanguageView) (K : ℕ) (old now new : List ConstraintView) → AddsListed lang K old now → AddsListed lang K now new → AddsListed lang K old new
adds_trans lang K old now new before after i none h = by (after i none h)
  where
    c : ConstraintView
    c = get_or new i none

    by : Contains now c ⊎ IsListed lang K (length lang.relations) c → Contains old c ⊎ IsListed lang K (length lang.relations) c
    by (inl here) = All-contains (λ e. Contains old e ⊎ IsListed lang K (length lang.relations) e) now c before here
    by (inr listed) = inr listed

-- the constraint of a list of rows is added
pub adds_push : (lang : LanguageView) (K relation : ℕ) (numbers scope : List ℕ) (old pool new : List ConstraintView) → relation < length lang.relations
    → IsTuple (length (rows_of lang relation)) K numbers
    → scope ≡ (constraint_of_rows lang relation (rows_at (relation_of lang relation) numbers)).scope
    → new ≡ pool ++ record { relation = relation; scope = scope } ∷ []
    → AddsListed lang K old pool → AddsListed lang K old new
adds_push lang K relation numbers scope old pool new known tuple is_scope is added =
    let P : ConstraintView → Type 0 = λ c. Contains old c ⊎ IsListed lang K (length lang.relations) c in
    let r = relation_of lang relation in
    subst (All P) (sym is) (All-push P pool (record { relation = relation; scope = scope }) added (inr (record {
      rows = rows_at r numbers;
      long = length-rows_at r numbers ∙ tuple.long;
      members = rows_at-rows r numbers tuple.below;
      known = known;
      is = ap (λ s. record { relation = relation; scope = s }) is_scope;
    })))

-- a relation all of whose lists are kept, in two parts, is preserved
pub preserved_by_parts : (f : Operation) (r : RelationView) (row : ℕ) → length r.rows ≤ 15625 → 1 ≤ f.arity
    → KeepsBetween f r row 4294967295 → KeepsBetween f r 0 row → Preserves f r
preserved_by_parts f r row few some behind before = preserves_from_none f r none
  where
    none : (numbers : List ℕ) → ¬ IsBroken f r numbers
    none numbers broken = by (cases_lt (get_or numbers 0 0) row)
      where
        low : get_or numbers 0 0 < length r.rows
        low = broken.are_rows.below 0 0 (omega (arith, some, broken.are_rows.long))

        by : (get_or numbers 0 0 < row) ⊎ (row ≤ get_or numbers 0 0) → ⊥
        by (inl less) = omega (arith, less, before numbers broken (omega arith))
        by (inr more) = omega (arith, low, few, behind numbers broken more)

-- a relation all of whose lists are kept is preserved
pub preserved_whole : (f : Operation) (r : RelationView) → length r.rows ≤ 15625 → 1 ≤ f.arity → KeepsBetween f r 0 4294967295 → Preserves f r
preserved_whole f r few some kept = preserved_by_parts f r 0 few some kept (λ numbers broken low. omega arith)

-- the lists from a place on, those of the relations behind and before, and those before the place are all lists
pub kept_around : (f : Operation) (lang : LanguageView) (turn row count : ℕ) → IsLanguage lang → 1 ≤ f.arity → count ≡ length lang.relations
    → KeepsPart f lang turn row 4294967295
    → ((n : ℕ) → turn + 1 ≤ n → n < count → KeepsPart f lang n 0 4294967295)
    → ((n : ℕ) → 0 ≤ n → n < turn → KeepsPart f lang n 0 4294967295)
    → KeepsPart f lang turn 0 row
    → IsPolymorphism f lang
kept_around f lang turn row count is some all behind later earlier before number none inside =
    subst (λ named. Preserves f named.relation) (sym (get_or_default lang.relations number none no_named inside)) (by (cases_order number turn))
  where
    few : length (relation_of lang number).rows ≤ 15625
    few = length-rows_few (relation_of lang number) (is.relations_are number no_named inside).is_relation

    here : number ≡ turn → Preserves f (relation_of lang number)
    here e =
        let known : turn < length lang.relations = omega (arith, e, inside) in
        preserved_by_parts f (relation_of lang number) row few some
        (subst (λ n. KeepsBetween f (relation_of lang n) row 4294967295) (sym e) (behind known))
        (subst (λ n. KeepsBetween f (relation_of lang n) 0 row) (sym e) (before known))

    by : (number ≡ turn) ⊎ ((number < turn) ⊎ (turn < number)) → Preserves f (relation_of lang number)
    by (inl e) = here e
    by (inr (inl less)) = preserved_whole f (relation_of lang number) few some (earlier number (omega arith) less inside)
    by (inr (inr more)) = preserved_whole f (relation_of lang number) few some (later number (omega (arith, more)) (omega (arith, inside, all)) inside)

-- what was kept so far, and a relation more
pub kept_more : (f : Operation) (lang : LanguageView) (first now : ℕ)
    → ((n : ℕ) → first ≤ n → n < now → KeepsPart f lang n 0 4294967295)
    → KeepsPart f lang now 0 4294967295
    → (n : ℕ) → first ≤ n → n < now + 1 → KeepsPart f lang n 0 4294967295
kept_more f lang first now before here n low less = by (cases_eq n now)
  where
    by : (n ≡ now) ⊎ (n ≡ now → ⊥) → KeepsPart f lang n 0 4294967295
    by (inl e) = subst (λ m. KeepsPart f lang m 0 4294967295) (sym e) here
    by (inr ne) = before n low (omega arith)
