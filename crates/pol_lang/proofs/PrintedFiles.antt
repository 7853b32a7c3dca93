-- Each line of a canonical text is printed: its tokens are read again as they are.
use Rattle.std.proofs.Common.{ℕ, List, [], ◌∷◌, map, codes, decimal, ◌++◌, flat_map, ◌≡◌, get_or, refl, All, ◌^◌, ◌<◌, ◌≤◌, arith, true, ◌&&◌, length}
use Rattle.std.specs.List.{list_all}
use Rattle.std.proofs.lemmas.Bool.{and_from}
use Rattle.std.proofs.lemmas.List.Elements.{All-nil, All-head, All-tail, All-append, All-cons, All-map}
use Rattle.pol_relation.specs.Relations.{NamedRelation, LanguageView, name_of, IsRelation}
use Rattle.pol_relation.specs.Instances.{ConstraintView, InstanceView, FitsAt}
use Rattle.pol_lang.specs.Spelling.{constraint_tokens, instance_lines}
use Rattle.pol_lang.specs.Files.{FileView, IsFileLanguage, IsFileInstance, IsFile}
use Rattle.pol_lang.specs.Texts.{tuple_tokens, relation_lines, entry_lines, file_lines}
use Rattle.pol_text.proofs.PrintedLines.{IsPrintedLine, numbers-printed, is_printed, is_printed-name, is_printed-decimal, names-printed}
use Rattle.pol_base.specs.Tuples.{IsTuple}
use Rattle.pol_text.specs.Lines.{is_name}

-- the tokens of a constraint line
abbrev pub constraint_line_tokens : LanguageView → InstanceView → ConstraintView → List (List ℕ)
constraint_line_tokens lang inst c = codes "constraint" ∷ constraint_tokens lang inst c

All-flat_map : {X Y : Type 0} (P : Y → Type 0) (f : X → List Y) (xs : List X) → All (λ x. All P (f x)) xs → All P (flat_map f xs)
All-flat_map P f [] all = All-nil P
All-flat_map P f (x ∷ xs) all = All-append P (f x) (flat_map f xs) (All-head (λ y. All P (f y)) x xs all) (All-flat_map P f xs (All-tail (λ y. All P (f y)) x xs all))

tuple-printed : (row : List ℕ) → All (λ v. v < 10 ^ 9) row → IsPrintedLine (tuple_tokens row)
tuple-printed row small = record { printed = numbers-printed row small; significant = refl }

pub few_values : (d n : ℕ) (row : List ℕ) → d ≤ 5 → IsTuple d n row → All (λ v. v < 10 ^ 9) row
few_values d n row few tuple = λ k fallback inside. let below = tuple.below k fallback inside in omega arith

relation-printed : (named : NamedRelation) → is_name named.name ≡ true → IsRelation named.relation → All IsPrintedLine (relation_lines named)
relation-printed named name_is is =
    let small : named.relation.arity < 10 ^ 9 = let few = is.few_places in omega arith in
    let first : list_all is_printed (named.name ∷ decimal named.relation.arity ∷ []) ≡ true = and_from (is_printed named.name) (is_printed (decimal named.relation.arity) && true) (is_printed-name named.name name_is) (and_from (is_printed (decimal named.relation.arity)) true (is_printed-decimal named.relation.arity small) refl) in
    All-cons IsPrintedLine (codes "relation" ∷ named.name ∷ decimal named.relation.arity ∷ []) (map tuple_tokens named.relation.rows)
    (record { printed = first; significant = refl })
    (All-map IsPrintedLine tuple_tokens named.relation.rows (λ k fallback inside. tuple-printed (get_or named.relation.rows k fallback) (few_values named.relation.domain named.relation.arity (get_or named.relation.rows k fallback) is.domain_is.few (is.tuples k fallback inside))))

constraint-printed : (lang : LanguageView) (inst : InstanceView) (c : ConstraintView) → IsFileLanguage lang → IsFileInstance lang inst → FitsAt lang (length inst.variables) c → IsPrintedLine (constraint_line_tokens lang inst c)
constraint-printed lang inst c language is fits =
    let name_is : is_name (name_of lang c.relation) ≡ true = language.names_are c.relation _ fits.known in
    let variables_are : All (λ name. is_name name ≡ true) (map (λ x. get_or inst.variables x []) c.scope) = All-map (λ name. is_name name ≡ true) (λ x. get_or inst.variables x []) c.scope (λ k fallback inside. is.names_are (get_or c.scope k fallback) [] (fits.below k fallback inside)) in
    record { printed = names-printed (constraint_tokens lang inst c) (All-cons (λ name. is_name name ≡ true) (name_of lang c.relation) (map (λ x. get_or inst.variables x []) c.scope) name_is variables_are); significant = refl }

instance-printed : (lang : LanguageView) (inst : InstanceView) → IsFileLanguage lang → IsFileInstance lang inst → All IsPrintedLine (instance_lines lang inst)
instance-printed lang inst language is =
    All-cons IsPrintedLine (codes "instance" ∷ inst.name ∷ inst.variables) (map (constraint_line_tokens lang inst) inst.constraints)
    (record { printed = names-printed (inst.name ∷ inst.variables) (All-cons (λ name. is_name name ≡ true) inst.name inst.variables is.name_is is.names_are); significant = refl })
    (All-map IsPrintedLine (constraint_line_tokens lang inst) inst.constraints (λ k fallback inside. constraint-printed lang inst (get_or inst.constraints k fallback) language is (is.fits k fallback inside)))

entry_lines-printed : (file : FileView) → IsFile file → All IsPrintedLine (entry_lines file)
entry_lines-printed file is =
    let language = is.language_is in
    All-append IsPrintedLine (flat_map relation_lines file.language.relations) (flat_map (instance_lines file.language) file.instances)
    (All-flat_map IsPrintedLine relation_lines file.language.relations (λ k fallback inside. relation-printed (get_or file.language.relations k fallback) (language.names_are k fallback inside) (language.is_language.relations_are k fallback inside).is_relation))
    (All-flat_map IsPrintedLine (instance_lines file.language) file.instances (λ k fallback inside. instance-printed file.language (get_or file.instances k fallback) language (is.instances_are k fallback inside)))

-- each line of the canonical text is printed
pub file_lines-printed : (file : FileView) → IsFile file → All IsPrintedLine (file_lines file)
file_lines-printed file is =
    let small : file.language.domain < 10 ^ 9 = let few = is.language_is.is_language.domain_is.few in omega arith in
    let last : IsPrintedLine (codes "end" ∷ []) = record { printed = refl; significant = refl } in
    let domain : IsPrintedLine (codes "domain" ∷ decimal file.language.domain ∷ []) = record { printed = and_from (is_printed (decimal file.language.domain)) true (is_printed-decimal file.language.domain small) refl; significant = refl } in
    All-cons IsPrintedLine (codes "polyanna" ∷ codes "1" ∷ []) ((codes "domain" ∷ decimal file.language.domain ∷ []) ∷ (entry_lines file ++ (codes "end" ∷ []) ∷ [])) (record { printed = refl; significant = refl })
    (All-cons IsPrintedLine (codes "domain" ∷ decimal file.language.domain ∷ []) (entry_lines file ++ (codes "end" ∷ []) ∷ []) domain
    (All-append IsPrintedLine (entry_lines file) ((codes "end" ∷ []) ∷ []) (entry_lines-printed file is) (All-cons IsPrintedLine (codes "end" ∷ []) [] last (All-nil IsPrintedLine))))
