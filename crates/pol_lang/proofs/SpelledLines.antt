-- Each line that spells a file is accepted behind the lines before it, with the entry that it writes.
use Rattle.std.proofs.Common.{◌≡◌, ℕ, true, false, Bool, cond, List, [], ◌∷◌, ◌++◌, ◌+◌, ◌-◌, ◌^◌, ◌<◌, ◌≤◌, ◌≢◌, All, AllPairs, Contains, Ok, Some, map, length, length-append, codes, get_or, leb, ltb, eqb, suc, refl, sym, ap, ◌∙◌, subst, append_assoc, arith}
use Rattle.std.specs.Bool.{Decides}
use Rattle.std.proofs.Math.Nat.{pow-le-pow_left}
use Rattle.std.proofs.lemmas.Bool.{le-leb, lt-ltb, eq-eqb}
use Rattle.std.proofs.lemmas.Bool.Decides.{not_from_Decides}
use Rattle.std.proofs.lemmas.List.{get_or_append_left, get_or_at, get_or-map, length-map, append-nil, get_or_push, length_push}
use Rattle.std.proofs.lemmas.List.Elements.{All-head, All-tail}
use Rattle.pol_text.specs.Lines.{number_of, is_name}
use Rattle.pol_text.specs.Reading.{unless}
use Rattle.pol_text.specs.declared.word.Word.TheVariants.{TooManyTuples, TripleLimit}
use Rattle.pol_base.specs.Tuples.{IsTuple}
use Rattle.pol_base.specs.Lists.{is_among, place_in}
use Rattle.pol_base.proofs.LookupLemmas.{is_among-decides, other_name, place_in-distinct, AllPairs-map}
use Rattle.pol_relation.specs.Relations.{NamedRelation, RelationView, LanguageView, IsRelationOver, with_row, with_row_in, with_row_at_last, relation_of, last_of, name_of, names_of, no_named}
use Rattle.pol_relation.specs.Weights.{weight_of, subset_weight_of, most_weight}
use Rattle.pol_relation.specs.Instances.{InstanceView, ConstraintView, FitsAt}
use Rattle.pol_relation.proofs.RelationLemmas.{with_row-there, length-with_row_new}
use Rattle.pol_relation.proofs.SumLemmas.{weight_of-push}
use Rattle.pol_lang.specs.Files.{FileView, IsFileInstance, no_instance, last_instance, with_constraint_at_last}
use Rattle.pol_lang.specs.Grammar.{entry_line, language_line, header_line, domain_line, relation_line, begun_relation, values_of, with_tuple, tuple_line, names_of_tokens, instance_line, scope_of, with_scope, constraint_line}
use Rattle.pol_lang.specs.Spelling.{Write, constraint_tokens}
use Rattle.pol_lang.proofs.LineSteps.{IsStep}
use Rattle.pol_lang.proofs.RowsToCome.{AreSomeRows, AreSomeRows-with_row, row-tuple, some_rows-long, some_rows-few}

-- ---- names of a list, each of which is new behind those before it

AllPairs-before : {X : Type 0} (R : X → X → Type 0) (done rest : List X) (x : X) → AllPairs R (done ++ x ∷ rest) → All (λ y. R y x) done
AllPairs-before R done rest x pairs = λ k fallback within.
    let inside : length done < length (done ++ x ∷ rest) = omega (arith, length-append done (x ∷ rest)) in
    subst (λ y. R y x) (get_or_append_left done (x ∷ rest) fallback k within) (subst (λ y. R (get_or (done ++ x ∷ rest) k fallback) y) (get_or_at done x rest fallback (length done) refl) (pairs k (length done) fallback within inside))

pub distinct-new : {X : Type 0} (f : X → List ℕ) (done rest : List X) (x : X) → AllPairs (λ y z. f y ≢ f z) (done ++ x ∷ rest) → Contains (map f done) (f x) → ⊥
distinct-new f done rest x distinct inside =
    let within : inside.0 < length done = let small = inside.1 in omega (arith, length-map done f) in
    AllPairs-before (λ y z. f y ≢ f z) done rest x distinct inside.0 x within (sym (get_or-map f done inside.0 x (f x) within) ∙ inside.2)

-- distinct names are read as they are
names_of_tokens-distinct : (before names all : List (List ℕ)) → all ≡ before ++ names → All (λ name. is_name name ≡ true) names → AllPairs (λ x y. x ≢ y) all → names_of_tokens before names ≡ Ok all
names_of_tokens-distinct before [] all same named distinct = ap (λ names. Ok names) (sym (same ∙ append-nil before))
names_of_tokens-distinct before (name ∷ names) all same named distinct =
    let is = All-head (λ x. is_name x ≡ true) name names named in
    let other = AllPairs-before (λ x y. x ≢ y) before names name (subst (AllPairs (λ x y. x ≢ y)) same distinct) in
    let new = other_name before name (λ inside. other inside.0 name inside.1 inside.2) in
    let rest = names_of_tokens-distinct (before ++ name ∷ []) names all (same ∙ sym (append_assoc before (name ∷ []) names)) (All-tail (λ x. is_name x ≡ true) name names named) distinct in
    rw (is, new) rest

-- ---- the header and the domain

pub header_line-accepts : (version : List ℕ) → number_of version ≡ Some 1 → header_line (codes "polyanna" ∷ version ∷ []) ≡ Ok 1
unfolding header_line
header_line-accepts version number = rw number refl

pub domain_line-accepts : (token : List ℕ) (d : ℕ) → number_of token ≡ Some d → 1 ≤ d → d ≤ 5 → domain_line (codes "domain" ∷ token ∷ []) ≡ Ok d
unfolding domain_line
domain_line-accepts token d number some few = rw (number, le-leb 1 d some, le-leb d 5 few) refl

-- ---- steps

-- the language of the relations
abbrev pub language_of : ℕ → List NamedRelation → LanguageView
language_of d relations = record { domain = d; relations = relations }

-- the file of the relations, without instances
abbrev pub file_of_relations : ℕ → List NamedRelation → FileView
file_of_relations d relations = record { language = language_of d relations; instances = [] }

-- the relation with these rows in place of its own
abbrev pub with_rows : NamedRelation → List (List ℕ) → NamedRelation
with_rows named rows = record { name = named.name; relation = record { domain = named.relation.domain; arity = named.relation.arity; rows = rows } }

-- the facts of a relation behind others of which the limits speak
pub record FitsBehind (d : ℕ) (done : List NamedRelation) (named : NamedRelation) : Type 0 where
  pub is_named : is_name named.name ≡ true
  pub is_new : Contains (map (λ e. e.name) done) named.name → ⊥
  pub over : IsRelationOver d named.relation
  pub room : length done < 32
  pub few_tuples : length named.relation.rows ≤ 128
  pub light : weight_of 3 done + length named.relation.rows ^ 3 ≤ most_weight
  pub few_subsets : subset_weight_of d done + (2 ^ d - 1) ^ named.relation.arity ≤ most_weight

pub relation_step : (d : ℕ) (done : List NamedRelation) (named : NamedRelation) (arity : List ℕ) → FitsBehind d done named → number_of arity ≡ Some named.relation.arity → IsStep (file_of_relations d done) (codes "relation" ∷ named.name ∷ arity ∷ []) (file_of_relations d (done ++ with_rows named [] ∷ []))
unfolding entry_line language_line relation_line begun_relation
relation_step d done named arity fits number =
    let is = fits.over.is_relation in
    let n = named.relation.arity in
    let new = other_name (map (λ e. e.name) done) named.name fits.is_new in
    let begun : NamedRelation = record { name = named.name; relation = record { domain = d; arity = n; rows = [] } } in
    let accepted : entry_line (file_of_relations d done) (codes "relation" ∷ named.name ∷ arity ∷ []) ≡ Ok (file_of_relations d (done ++ begun ∷ [])) = rw (fits.is_named, new, number, le-leb 1 n is.some_places, le-leb n 6 is.few_places, lt-ltb (length done) 32 fits.room, le-leb (subset_weight_of d done + (2 ^ d - 1) ^ n) most_weight fits.few_subsets) refl in
    record { goes_on = refl; accepted = accepted ∙ ap (λ m. Ok (file_of_relations d (done ++ record { name = named.name; relation = record { domain = m; arity = n; rows = [] } } ∷ []))) (sym fits.over.same_domain) }

-- ---- rows

length-write : (tokens : List (List ℕ)) (values : List ℕ) → Write tokens values → length tokens ≡ length values
length-write tokens values write = sym (length-map tokens number_of) ∙ (ap length write ∙ length-map values (λ v. Some v))

-- the tokens that write values below d are read as these
write-values_of : (d : ℕ) (tokens : List (List ℕ)) (values : List ℕ) → Write tokens values → All (λ v. v < d) values → values_of d tokens ≡ Ok values
write-values_of d [] [] write below = refl
write-values_of d [] (v ∷ values) write below = absurd (cc)
write-values_of d (t ∷ tokens) [] write below = absurd (cc)
write-values_of d (t ∷ tokens) (v ∷ values) write below =
    let number : number_of t ≡ Some v = cc in
    let later : Write tokens values = cc in
    let rest = write-values_of d tokens values later (All-tail (λ w. w < d) v values below) in
    rw (number, lt-ltb v d (All-head (λ w. w < d) v values below), rest) refl

with_row_at_last-push : (t : List ℕ) (done : List NamedRelation) (e : NamedRelation) → with_row_at_last t (done ++ e ∷ []) ≡ done ++ record { name = e.name; relation = with_row_in e.relation t } ∷ []
with_row_at_last-push t [] e = refl
with_row_at_last-push t (f ∷ []) e = refl
with_row_at_last-push t (f ∷ g ∷ done) e = ap (λ relations. f ∷ relations) (with_row_at_last-push t (g ∷ done) e)

last_place-push : {X : Type 0} (done : List X) (x : X) → length (done ++ x ∷ []) - 1 ≡ length done
last_place-push done x = omega (arith, length_push done x)

last_of-push : (d : ℕ) (done : List NamedRelation) (e : NamedRelation) → last_of (language_of d (done ++ e ∷ [])) ≡ e.relation
last_of-push d done e = ap (λ n. relation_of (language_of d (done ++ e ∷ [])) n) (last_place-push done e) ∙ ap (λ f. f.relation) (get_or_push done e no_named (length done) refl)

-- a row of the last relation, there or new, within the limits
with_tuple-accepts : (d : ℕ) (done : List NamedRelation) (named : NamedRelation) (rows : List (List ℕ)) (t : List ℕ) → FitsBehind d done named → AreSomeRows named.relation rows → Contains named.relation.rows t → with_tuple (language_of d (done ++ with_rows named rows ∷ [])) t ≡ Ok (language_of d (done ++ with_rows named (with_row t rows) ∷ []))
unfolding with_tuple
with_tuple-accepts d done named rows t fits some there = rw (last_of-push d done (with_rows named rows), with_row_at_last-push t done (with_rows named rows)) (by (is_among rows t) (is_among-decides rows t))
  where
    r : RelationView
    r = named.relation

    next : List NamedRelation
    next = done ++ with_rows named (with_row t rows) ∷ []

    long : length t ≡ r.arity
    long = (row-tuple r t some.is_relation there).long

    few : length (with_row t rows) ≤ length r.rows
    few = some_rows-few r (with_row t rows) (AreSomeRows-with_row r rows t some there)

    light : weight_of 3 next ≤ most_weight
    light =
        let fewer : length (with_row t rows) ^ 3 ≤ length r.rows ^ 3 = pow-le-pow_left {n = length (with_row t rows)} {m = length r.rows} few 3 in
        omega (arith, fits.light, weight_of-push 3 done (with_rows named (with_row t rows)))

    by : (old : Bool) → Decides old (Contains rows t) → cond old (Ok (language_of d (done ++ with_rows named rows ∷ []))) (unless (ltb (length rows) 128) TooManyTuples (unless (leb (weight_of 3 next) most_weight) TripleLimit (Ok (language_of d next)))) ≡ Ok (language_of d next)
    by true decides = ap (λ all. Ok (language_of d (done ++ with_rows named all ∷ []))) (sym (with_row-there r.arity t rows long (some_rows-long r rows some) some.ascending (decides.0 refl)))
    by false decides =
        let longer = length-with_row_new r.arity t rows long (some_rows-long r rows some) (not_from_Decides false decides refl) in
        rw (lt-ltb (length rows) 128 (omega (arith, few, fits.few_tuples)), le-leb (weight_of 3 next) most_weight light) refl

pub tuple_step : (d : ℕ) (done : List NamedRelation) (named : NamedRelation) (rows : List (List ℕ)) (tokens : List (List ℕ)) (t : List ℕ) → FitsBehind d done named → AreSomeRows named.relation rows → Contains named.relation.rows t → Write tokens t → IsStep (file_of_relations d (done ++ with_rows named rows ∷ [])) (codes "tuple" ∷ tokens) (file_of_relations d (done ++ with_rows named (with_row t rows) ∷ []))
unfolding entry_line language_line tuple_line
tuple_step d done named rows tokens t fits some there write =
    let e = with_rows named rows in
    let n = named.relation.arity in
    let tuple : IsTuple d n t = subst (λ m. IsTuple m n t) fits.over.same_domain (row-tuple named.relation t some.is_relation there) in
    let begun = lt-ltb 0 (length (done ++ e ∷ [])) (omega (arith, length_push done e)) in
    let long : suc (length tokens) - 1 ≡ n = omega (arith, tuple.long, length-write tokens t write) in
    record { goes_on = refl; accepted = rw (begun, last_of-push d done e, long, le-leb n n (omega arith), write-values_of d tokens t write tuple.below, with_tuple-accepts d done named rows t fits some there) refl }

-- ---- instances

-- the file of the language and the instances
abbrev pub file_with : LanguageView → List InstanceView → FileView
file_with lang instances = record { language = lang; instances = instances }

-- the instance with these constraints in place of its own
abbrev pub with_constraints : InstanceView → List ConstraintView → InstanceView
with_constraints inst constraints = record { name = inst.name; variables = inst.variables; constraints = constraints }

pub instance_step : (lang : LanguageView) (done : List InstanceView) (inst : InstanceView) → IsFileInstance lang inst → (Contains (map (λ i. i.name) done) inst.name → ⊥) → length done < 8 → IsStep (file_with lang done) (codes "instance" ∷ inst.name ∷ inst.variables) (file_with lang (done ++ with_constraints inst [] ∷ []))
unfolding entry_line instance_line
instance_step lang done inst is new room =
    let size = length inst.variables in
    let long : leb 3 (suc (suc size)) ≡ true = le-leb 3 (suc (suc size)) (omega (arith, is.some_variables)) in
    let count : suc (suc size) - 2 ≡ size = omega arith in
    let read = names_of_tokens-distinct [] inst.variables inst.variables refl is.names_are is.is_instance.distinct in
    record { goes_on = refl; accepted = rw (long, is.name_is, other_name (map (λ i. i.name) done) inst.name new, lt-ltb (length done) 8 room, count, le-leb size 40 is.few_variables, read) refl }

-- the names of variables are read as the variables
scope_of-distinct : (variables : List (List ℕ)) (scope : List ℕ) → AllPairs (λ x y. x ≢ y) variables → All (λ x. x < length variables) scope → scope_of variables (map (λ x. get_or variables x []) scope) ≡ Ok scope
scope_of-distinct variables [] distinct below = refl
scope_of-distinct variables (x ∷ scope) distinct below =
    let first = place_in-distinct variables x [] distinct (All-head (λ y. y < length variables) x scope below) in
    let rest = scope_of-distinct variables scope distinct (All-tail (λ y. y < length variables) x scope below) in
    rw (first, rest) refl

-- the name of a relation of the language is read as its number
place_in-names_of : (lang : LanguageView) (r : ℕ) → AllPairs (λ e f. e.name ≢ f.name) lang.relations → r < length lang.relations → place_in (names_of lang) (name_of lang r) ≡ Some r
place_in-names_of lang r distinct known =
    let inside : r < length (names_of lang) = omega (arith, length-map lang.relations (λ e. e.name)) in
    let name : get_or (names_of lang) r [] ≡ name_of lang r = get_or-map (λ e. e.name) lang.relations r no_named [] known in
    subst (λ xs. place_in (names_of lang) xs ≡ Some r) name (place_in-distinct (names_of lang) r [] (AllPairs-map (λ e. e.name) lang.relations no_named distinct) inside)

with_constraint_at_last-push : (c : ConstraintView) (done : List InstanceView) (inst : InstanceView) → with_constraint_at_last c (done ++ inst ∷ []) ≡ done ++ with_constraints inst (inst.constraints ++ c ∷ []) ∷ []
with_constraint_at_last-push c [] inst = refl
with_constraint_at_last-push c (next ∷ []) inst = refl
with_constraint_at_last-push c (next ∷ other ∷ done) inst = ap (λ instances. next ∷ instances) (with_constraint_at_last-push c (other ∷ done) inst)

last_instance-push : (lang : LanguageView) (done : List InstanceView) (inst : InstanceView) → last_instance (file_with lang (done ++ inst ∷ [])) ≡ inst
last_instance-push lang done inst = ap (λ n. get_or (done ++ inst ∷ []) n no_instance) (last_place-push done inst) ∙ get_or_push done inst no_instance (length done) refl

pub constraint_step : (lang : LanguageView) (done : List InstanceView) (inst : InstanceView) (front : List ConstraintView) (c : ConstraintView) → AllPairs (λ e f. e.name ≢ f.name) lang.relations → AllPairs (λ x y. x ≢ y) inst.variables → FitsAt lang (length inst.variables) c → length front < 256 → IsStep (file_with lang (done ++ with_constraints inst front ∷ [])) (codes "constraint" ∷ constraint_tokens lang inst c) (file_with lang (done ++ with_constraints inst (front ++ c ∷ []) ∷ []))
unfolding entry_line constraint_line with_scope
constraint_step lang done inst front c names distinct fits room =
    let begun = with_constraints inst front in
    let some = lt-ltb 0 (length (done ++ begun ∷ [])) (omega (arith, length_push done begun)) in
    let count = length (map (λ x. get_or inst.variables x []) c.scope) in
    let last = last_instance-push lang done begun in
    let long : leb 2 (suc (suc count)) ≡ true = le-leb 2 (suc (suc count)) (omega arith) in
    let arity : eqb (suc (suc count) - 2) (relation_of lang c.relation).arity ≡ true = eq-eqb (suc (suc count) - 2) (relation_of lang c.relation).arity (omega (arith, fits.long, length-map c.scope (λ x. get_or inst.variables x []))) in
    record { goes_on = refl; accepted = rw (some, long, place_in-names_of lang c.relation names fits.known, arity, last, scope_of-distinct inst.variables c.scope distinct fits.below, last, lt-ltb (length front) 256 room, with_constraint_at_last-push c done begun) refl }
