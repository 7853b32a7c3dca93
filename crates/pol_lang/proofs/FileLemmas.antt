-- Files: what building one from its parts keeps of the limits, the names and the instances.
use Rattle.std.proofs.Common.{◌≡◌, ℕ, true, List, [], ◌∷◌, length, All, arith, ◌≤◌, ◌+◌, ◌-◌, ◌^◌, ◌<◌, Contains, ◌≢◌, AllPairs, Ok, refl, ◌∙◌, suc, ap, zero, get_or, sym, set}
use Rattle.std.proofs.lemmas.List.{length_push, get_or-map, length-map}
use Rattle.std.proofs.lemmas.List.Elements.{All-get_or, All-nil, All-push, All-cons, All-head, All-tail}
use Rattle.std.proofs.lemmas.List.Quantifiers.{all_pairs_push}
use Rattle.pol_relation.specs.Relations.{with_row_at_last, RelationView, IsRelationOver, LanguageView, names_of, with_relation, last_of, with_row, with_last_row, NamedRelation, no_named}
use Rattle.pol_text.specs.Lines.{is_name}
use Rattle.pol_relation.proofs.RelationLemmas.{IsLanguage-begun, length-with_relation, IsLanguage-with_relation, length-with_last_row, IsLanguage-with_last_row, IsRelation-begun}
use Rattle.pol_relation.proofs.SumLemmas.{All-with_row_at_last, weight_of-push, subset_weight_of-push, subset_weight_of-with_row_at_last, few-with_row, length-last_rows, last_place}
use Rattle.pol_base.specs.Tuples.{IsDomain, IsTuple}
use Rattle.pol_lang.specs.Files.{IsFileLanguage, IsFileInstance, IsFile, FileView, instance_names, with_empty_relation, with_language, begun_instance, with_instance, with_constraint_at_last, no_instance, last_instance, with_last_constraint}
use Rattle.pol_relation.specs.Weights.{weight_of, most_weight}
use Rattle.pol_lang.specs.Limits.{most_relations, most_tuples, most_instances, most_variables, most_constraints}
use Rattle.pol_relation.specs.Instances.{IsScope, FitsAt, ConstraintView, InstanceView, with_constraint}
use Rattle.pol_lang.specs.Grammar.{names_of_tokens, subsets_with}
use Rattle.pol_base.proofs.MemberLemmas.{AllPairs-nil}
use Rattle.pol_lang.proofs.AcceptedLines.{names_of_tokens-names}

named-with_row : (t : List ℕ) (relations : List NamedRelation) → All (λ e. is_name e.name ≡ true) relations → All (λ e. is_name e.name ≡ true) (with_row_at_last t relations)
named-with_row t [] all = all
named-with_row t (e ∷ es) all = All-with_row_at_last (λ f. is_name f.name ≡ true) t e es all (All-get_or (λ f. is_name f.name ≡ true) (e ∷ es) (length es) no_named (omega arith) all)

pub IsFileLanguage-begun : (d : ℕ) → IsDomain d → IsFileLanguage (record { domain = d; relations = [] })
IsFileLanguage-begun d domain = record {
  is_language = IsLanguage-begun d domain;
  names_are = All-nil (λ e. is_name e.name ≡ true);
  few_relations = omega arith;
  few_tuples = All-nil (λ e. length e.relation.rows ≤ most_tuples);
  few_triples = omega arith;
  few_subsets = omega arith;
}

-- a new relation within the limits
pub IsFileLanguage-with_relation : (lang : LanguageView) (name : List ℕ) (r : RelationView) → IsFileLanguage lang → IsRelationOver lang.domain r → is_name name ≡ true → ¬ Contains (names_of lang) name → length lang.relations < most_relations → length r.rows ≤ most_tuples → weight_of 3 lang.relations + length r.rows ^ 3 ≤ most_weight → subsets_with lang r.arity ≤ most_weight → IsFileLanguage (with_relation lang name r)
IsFileLanguage-with_relation lang name r is over named new few rows triples subsets = record {
  is_language = IsLanguage-with_relation lang name r is.is_language over new;
  names_are = All-push (λ e. is_name e.name ≡ true) lang.relations (record { name = name; relation = r }) is.names_are named;
  few_relations = omega (arith, few, length-with_relation lang name r);
  few_tuples = All-push (λ e. length e.relation.rows ≤ most_tuples) lang.relations (record { name = name; relation = r }) is.few_tuples rows;
  few_triples = rw (weight_of-push 3 lang.relations (record { name = name; relation = r })) triples;
  few_subsets = rw (subset_weight_of-push lang.domain lang.relations (record { name = name; relation = r })) subsets;
}

-- a row more of the last relation, within the limits
pub IsFileLanguage-with_last_row : (lang : LanguageView) (t : List ℕ) → IsFileLanguage lang → IsTuple (last_of lang).domain (last_of lang).arity t → length (with_row t (last_of lang).rows) ≤ most_tuples → weight_of 3 (with_last_row lang t).relations ≤ most_weight → IsFileLanguage (with_last_row lang t)
IsFileLanguage-with_last_row lang t is tuple rows triples = record {
  is_language = IsLanguage-with_last_row lang t is.is_language tuple;
  names_are = named-with_row t lang.relations is.names_are;
  few_relations = omega (arith, is.few_relations, length-with_last_row lang t);
  few_tuples = few-with_row t lang.relations is.few_tuples rows;
  few_triples = triples;
  few_subsets = rw (subset_weight_of-with_row_at_last lang.domain t lang.relations) is.few_subsets;
}

-- ---- instances

-- an instance that is begun has no constraints
pub IsFileInstance-begun : (lang : LanguageView) (name : List ℕ) (variables : List (List ℕ)) → is_name name ≡ true → All (λ x. is_name x ≡ true) variables → AllPairs (λ x y. x ≢ y) variables → 1 ≤ length variables → length variables ≤ most_variables → IsFileInstance lang (begun_instance name variables)
IsFileInstance-begun lang name variables named names distinct some few = record {
  is_instance = record { distinct = distinct; scopes = All-nil (λ c. IsScope (length variables) c.scope) };
  fits = All-nil (FitsAt lang (length variables));
  name_is = named;
  names_are = names;
  some_variables = some;
  few_variables = few;
  few_constraints = omega arith;
}

-- the tokens that are read as names are variables of an instance of any language
pub IsFileInstance-names : (lang : LanguageView) (name : List ℕ) (tokens variables : List (List ℕ)) → is_name name ≡ true → 1 ≤ length tokens → length tokens ≤ most_variables → names_of_tokens [] tokens ≡ Ok variables → IsFileInstance lang (begun_instance name variables)
IsFileInstance-names lang name tokens variables named some few read =
    let are = names_of_tokens-names [] tokens variables (AllPairs-nil (λ x y. x ≢ y)) read in
    rw are.same (IsFileInstance-begun lang name tokens named are.named are.distinct some few)

-- a constraint more of a relation of the language
pub IsFileInstance-with_constraint : (lang : LanguageView) (inst : InstanceView) (c : ConstraintView) → IsFileInstance lang inst → FitsAt lang (length inst.variables) c → 1 ≤ length c.scope → length c.scope ≤ 6 → length inst.constraints < most_constraints → IsFileInstance lang (with_constraint inst c)
IsFileInstance-with_constraint lang inst c is fits some few room = record {
  is_instance = record {
    distinct = is.is_instance.distinct;
    scopes = All-push (λ one. IsScope (length inst.variables) one.scope) inst.constraints c is.is_instance.scopes (record { some_places = some; few_places = few; below = fits.below });
  };
  fits = All-push (FitsAt lang (length inst.variables)) inst.constraints c is.fits fits;
  name_is = is.name_is;
  names_are = is.names_are;
  some_variables = is.some_variables;
  few_variables = is.few_variables;
  few_constraints = omega (arith, room, length_push inst.constraints c);
}

-- ---- files

-- a language is a file without instances
pub IsFile-without_instances : (lang : LanguageView) (instances : List InstanceView) → IsFileLanguage lang → length instances ≡ 0 → IsFile (record { language = lang; instances = instances })
IsFile-without_instances lang instances is none = record {
  language_is = is;
  instances_are = λ k d inside. absurd (omega arith);
  distinct = λ i j d less inside. absurd (omega arith);
  few_instances = omega arith;
}

-- a file without instances begins a relation within the limits
pub IsFile-with_relation : (file : FileView) (name : List ℕ) (arity : ℕ) → IsFile file → length file.instances ≡ 0 → is_name name ≡ true → ¬ Contains (names_of file.language) name → 1 ≤ arity → arity ≤ 6 → length file.language.relations < most_relations → subsets_with file.language arity ≤ most_weight → IsFile (with_language file (with_empty_relation file.language name arity))
IsFile-with_relation file name arity is none named new some few room subsets =
    let lang = file.language in
    let relation : RelationView = record { domain = lang.domain; arity = arity; rows = [] } in
    let over : IsRelationOver lang.domain relation = record { is_relation = IsRelation-begun lang.domain arity is.language_is.is_language.domain_is some few; same_domain = refl } in
    let triples : weight_of 3 lang.relations + 0 ≤ most_weight = let few_triples = is.language_is.few_triples in omega arith in
    IsFile-without_instances (with_relation lang name relation) file.instances (IsFileLanguage-with_relation lang name relation is.language_is over named new room (omega arith) triples subsets) none

-- a file without instances takes a row more within the limits
pub IsFile-with_row : (file : FileView) (t : List ℕ) → IsFile file → length file.instances ≡ 0 → 0 < length file.language.relations → IsTuple (last_of file.language).domain (last_of file.language).arity t → ¬ Contains (last_of file.language).rows t → length (last_of file.language).rows < most_tuples → weight_of 3 (with_last_row file.language t).relations ≤ most_weight → IsFile (with_language file (with_last_row file.language t))
IsFile-with_row file t is none some tuple new room triples =
    let longer = length-last_rows file.language t is.language_is.is_language some tuple new in
    IsFile-without_instances (with_last_row file.language t) file.instances (IsFileLanguage-with_last_row file.language t is.language_is tuple (omega arith) triples) none

-- a new instance
pub IsFile-with_instance : (file : FileView) (inst : InstanceView) → IsFile file → IsFileInstance file.language inst → ¬ Contains (instance_names file) inst.name → length file.instances < most_instances → IsFile (with_instance file inst)
IsFile-with_instance file inst is fits new few = record {
  language_is = is.language_is;
  instances_are = All-push (IsFileInstance file.language) file.instances inst is.instances_are fits;
  distinct = all_pairs_push (λ i j. i.name ≢ j.name) file.instances inst is.distinct (λ k d inside same.
      new (k, omega (arith, length-map file.instances (λ i. i.name)), get_or-map (λ i. i.name) file.instances k d inst.name inside ∙ same));
  few_instances = omega (arith, few, length_push file.instances inst);
}

pub length-with_constraint_at_last : (c : ConstraintView) (instances : List InstanceView) → length (with_constraint_at_last c instances) ≡ length instances
length-with_constraint_at_last c [] = refl
length-with_constraint_at_last c (inst ∷ []) = refl
length-with_constraint_at_last c (inst ∷ next ∷ rest) = ap suc (length-with_constraint_at_last c (next ∷ rest))

-- each instance keeps its name
name-with_constraint_at_last : (c : ConstraintView) (instances : List InstanceView) (k : ℕ) (d : InstanceView) → (get_or (with_constraint_at_last c instances) k d).name ≡ (get_or instances k d).name
name-with_constraint_at_last c [] k d = refl
name-with_constraint_at_last c (inst ∷ []) zero d = refl
name-with_constraint_at_last c (inst ∷ []) (suc k) d = refl
name-with_constraint_at_last c (inst ∷ next ∷ rest) zero d = refl
name-with_constraint_at_last c (inst ∷ next ∷ rest) (suc k) d = name-with_constraint_at_last c (next ∷ rest) k d

All-with_constraint_at_last : (P : InstanceView → Type 0) (c : ConstraintView) (inst : InstanceView) (rest : List InstanceView) → All P (inst ∷ rest) → (P (get_or (inst ∷ rest) (length rest) no_instance) → P (with_constraint (get_or (inst ∷ rest) (length rest) no_instance) c)) → All P (with_constraint_at_last c (inst ∷ rest))
All-with_constraint_at_last P c inst [] all more = All-cons P (with_constraint inst c) [] (more (All-head P inst [] all)) (All-nil P)
All-with_constraint_at_last P c inst (next ∷ rest) all more = All-cons P inst (with_constraint_at_last c (next ∷ rest)) (All-head P inst (next ∷ rest) all) (All-with_constraint_at_last P c next rest (All-tail P inst (next ∷ rest) all) more)

instances-with_constraint : (P : InstanceView → Type 0) (c : ConstraintView) (instances : List InstanceView) → All P instances → (let last = get_or instances (length instances - 1) no_instance in P last → P (with_constraint last c)) → All P (with_constraint_at_last c instances)
instances-with_constraint P c [] all more = all
instances-with_constraint P c (inst ∷ rest) all more = All-with_constraint_at_last P c inst rest all (rw (last_place (length rest)) at more)

-- a constraint more of the last instance
pub IsFile-with_last_constraint : (file : FileView) (c : ConstraintView) → IsFile file → FitsAt file.language (length (last_instance file).variables) c → 1 ≤ length c.scope → length c.scope ≤ 6 → length (last_instance file).constraints < most_constraints → IsFile (with_last_constraint file c)
IsFile-with_last_constraint file c is fits some few room = record {
  language_is = is.language_is;
  instances_are = instances-with_constraint (IsFileInstance file.language) c file.instances is.instances_are (λ last. IsFileInstance-with_constraint file.language (last_instance file) c last fits some few room);
  distinct = λ i j d less inside same.
      is.distinct i j d less (omega (arith, inside, length-with_constraint_at_last c file.instances))
      (sym (name-with_constraint_at_last c file.instances i d) ∙ (same ∙ name-with_constraint_at_last c file.instances j d));
  few_instances = omega (arith, is.few_instances, length-with_constraint_at_last c file.instances);
}

set-last : (c : ConstraintView) (inst : InstanceView) (rest : List InstanceView) → set (inst ∷ rest) (length rest) (with_constraint (get_or (inst ∷ rest) (length rest) no_instance) c) ≡ with_constraint_at_last c (inst ∷ rest)
set-last c inst [] = refl
set-last c inst (next ∷ rest) = ap (λ instances. inst ∷ instances) (set-last c next rest)

-- the last instance with the constraint in its place
pub set-with_constraint : (c : ConstraintView) (instances : List InstanceView) → 0 < length instances → set instances (length instances - 1) (with_constraint (get_or instances (length instances - 1) no_instance) c) ≡ with_constraint_at_last c instances
set-with_constraint c [] some = absurd (omega arith)
set-with_constraint c (inst ∷ rest) some = rw (last_place (length rest)) (set-last c inst rest)
