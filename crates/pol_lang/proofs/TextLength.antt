-- The canonical text of a file is short: it has few lines, each of few short tokens.
use Rattle.std.proofs.Common.{◌≡◌, ℕ, ◌+◌, ◌*◌, ◌<◌, ◌≤◌, ◌^◌, true, List, [], ◌∷◌, ◌++◌, length, get_or, map, flat_map, codes, decimal, All, ap, ◌∙◌, arith, length-append, ◌&&◌, leb}
use Rattle.std.specs.List.{list_all}
use Rattle.std.proofs.Math.Nat.{le_trans, mul-le-mul_right}
use Rattle.std.proofs.lemmas.Bool.{and_parts, leb-true}
use Rattle.std.proofs.lemmas.Fmt.{length-decimal-le}
use Rattle.std.proofs.lemmas.List.{length-map}
use Rattle.std.proofs.lemmas.List.Elements.{All-nil, All-cons, All-map}
use Rattle.pol_base.specs.Tuples.{IsTuple}
use Rattle.pol_relation.specs.Relations.{NamedRelation, LanguageView, IsRelation, name_of}
use Rattle.pol_relation.specs.Instances.{InstanceView, ConstraintView, FitsAt, IsScope}
use Rattle.pol_text.specs.Lines.{is_name, is_letter, is_name_byte}
use Rattle.pol_text.specs.Texts.{joined, printed_line}
use Rattle.pol_text.proofs.TextLemmas.{joined-flat_map, joined-parts, joined-long, printed_line-long}
use Rattle.pol_lang.specs.Files.{FileView, IsFileLanguage, IsFileInstance, IsFile}
use Rattle.pol_lang.specs.Spelling.{constraint_tokens, instance_lines}
use Rattle.pol_lang.specs.Texts.{tuple_tokens, relation_lines, file_text}

-- ---- tokens

abbrev IsShort : List ℕ → Type 0
IsShort token = length token ≤ 32

name-short : (name : List ℕ) → is_name name ≡ true → IsShort name
name-short [] named = omega arith
name-short (b ∷ bs) named =
    let front = (and_parts (is_letter b && leb (length bs) 31) (list_all is_name_byte bs) named).0 in
    let few = leb-true (length bs) 31 (and_parts (is_letter b) (leb (length bs) 31) front).1 in
    omega arith

number-short : (n : ℕ) → n < 10 ^ 9 → IsShort (decimal n)
number-short n small = let few = length-decimal-le 9 n (omega arith) small (omega arith) in omega arith

-- ---- lines

-- a line of at most 42 tokens of at most 32 bytes
record IsShortLine (tokens : List (List ℕ)) : Type 0 where
  few : length tokens ≤ 42
  short : All IsShort tokens

short_line : (first : List ℕ) (tokens : List (List ℕ)) → IsShort first → All IsShort tokens → length tokens ≤ 41 → IsShortLine (first ∷ tokens)
short_line first tokens start short few = record { few = omega arith; short = All-cons IsShort first tokens start short }

-- few lines together
lines-short : (n : ℕ) (lines : List (List (List ℕ))) → All IsShortLine lines → length lines ≤ n → length (joined printed_line lines) ≤ n * 1387
lines-short n lines short few =
    let each : All (λ tokens. length (printed_line tokens) ≤ 1387) lines = λ k fallback inside.
    let line = short k fallback inside in
    let count = line.few in
    omega (arith, printed_line-long 32 (get_or lines k fallback) line.short) in
    omega (arith, joined-long printed_line 1387 lines each)

-- ---- relations and instances

row-short : (d n : ℕ) (row : List ℕ) → d ≤ 5 → n ≤ 6 → IsTuple d n row → IsShortLine (tuple_tokens row)
row-short d n row few places tuple =
    let long = tuple.long in
    let values = All-map IsShort decimal row (λ k fallback inside. number-short (get_or row k fallback) (let below = tuple.below k fallback inside in omega arith)) in
    short_line (codes "tuple") (map decimal row) (omega arith) values (omega (arith, length-map row decimal))

relation-short : (named : NamedRelation) → is_name named.name ≡ true → IsRelation named.relation → length named.relation.rows ≤ 128 → length (joined printed_line (relation_lines named)) ≤ 129 * 1387
relation-short named name_is is few =
    let places = is.few_places in
    let arity = decimal named.relation.arity in
    let tokens = All-cons IsShort named.name (arity ∷ []) (name-short named.name name_is) (All-cons IsShort arity [] (number-short named.relation.arity (omega arith)) (All-nil IsShort)) in
    let first = short_line (codes "relation") (named.name ∷ arity ∷ []) (omega arith) tokens (omega arith) in
    let rows = All-map IsShortLine tuple_tokens named.relation.rows (λ k fallback inside. row-short named.relation.domain named.relation.arity (get_or named.relation.rows k fallback) is.domain_is.few places (is.tuples k fallback inside)) in
    lines-short 129 (relation_lines named) (All-cons IsShortLine (codes "relation" ∷ named.name ∷ arity ∷ []) (map tuple_tokens named.relation.rows) first rows) (omega (arith, length-map named.relation.rows tuple_tokens))

constraint-short : (lang : LanguageView) (inst : InstanceView) (c : ConstraintView) → IsFileLanguage lang → IsFileInstance lang inst → FitsAt lang (length inst.variables) c → IsScope (length inst.variables) c.scope → IsShortLine (codes "constraint" ∷ constraint_tokens lang inst c)
constraint-short lang inst c language is fits scope =
    let places = scope.few_places in
    let name : ℕ → List ℕ = λ x. get_or inst.variables x [] in
    let relation = name-short (name_of lang c.relation) (language.names_are c.relation _ fits.known) in
    let names = All-map IsShort name c.scope (λ k fallback inside. name-short (name (get_or c.scope k fallback)) (is.names_are (get_or c.scope k fallback) [] (fits.below k fallback inside))) in
    short_line (codes "constraint") (constraint_tokens lang inst c) (omega arith) (All-cons IsShort (name_of lang c.relation) (map name c.scope) relation names) (omega (arith, length-map c.scope name))

instance-short : (lang : LanguageView) (inst : InstanceView) → IsFileLanguage lang → IsFileInstance lang inst → length (joined printed_line (instance_lines lang inst)) ≤ 257 * 1387
instance-short lang inst language is =
    let few = is.few_variables in
    let room = is.few_constraints in
    let constraint_line : ConstraintView → List (List ℕ) = λ c. codes "constraint" ∷ constraint_tokens lang inst c in
    let names = All-cons IsShort inst.name inst.variables (name-short inst.name is.name_is) (λ k fallback inside. name-short (get_or inst.variables k fallback) (is.names_are k fallback inside)) in
    let first = short_line (codes "instance") (inst.name ∷ inst.variables) (omega arith) names (omega arith) in
    let constraints = All-map IsShortLine constraint_line inst.constraints (λ k fallback inside. constraint-short lang inst (get_or inst.constraints k fallback) language is (is.fits k fallback inside) (is.is_instance.scopes k fallback inside)) in
    lines-short 257 (instance_lines lang inst) (All-cons IsShortLine (codes "instance" ∷ inst.name ∷ inst.variables) (map constraint_line inst.constraints) first constraints) (omega (arith, length-map inst.constraints constraint_line))

-- ---- the whole text

-- what is made of few elements
parts-short : {X : Type 0} (n m : ℕ) (f : X → List (List (List ℕ))) (xs : List X) → All (λ x. length (joined printed_line (f x)) ≤ m) xs → length xs ≤ n → length (joined printed_line (flat_map f xs)) ≤ n * m
parts-short n m f xs short few = rw (joined-flat_map printed_line f xs) (le_trans (joined-long (λ x. joined printed_line (f x)) m xs short) (mul-le-mul_right m few))

length-parts : (a b c d e : List ℕ) → length (a ++ b ++ (c ++ (d ++ e))) ≡ length a + length b + (length c + (length d + length e))
length-parts a b c d e = simp length-append

-- the canonical text is short enough to be read
pub file_text-short : (file : FileView) → IsFile file → length (file_text file) < 2 ^ 28
file_text-short file is =
    let lang = file.language in
    let language = is.language_is in
    let relations = flat_map relation_lines lang.relations in
    let instances = flat_map (instance_lines lang) file.instances in
    let header = codes "polyanna" ∷ codes "1" ∷ [] in
    let domain = codes "domain" ∷ decimal lang.domain ∷ [] in
    let end = codes "end" ∷ [] in
    let size = number-short lang.domain (let few = language.is_language.domain_is.few in omega arith) in
    let first = printed_line-long 32 domain (All-cons IsShort (codes "domain") (decimal lang.domain ∷ []) (omega arith) (All-cons IsShort (decimal lang.domain) [] size (All-nil IsShort))) in
    let second = parts-short 32 (129 * 1387) relation_lines lang.relations (λ k fallback inside. relation-short (get_or lang.relations k fallback) (language.names_are k fallback inside) (language.is_language.relations_are k fallback inside).is_relation (language.few_tuples k fallback inside)) language.few_relations in
    let third = parts-short 8 (257 * 1387) (instance_lines lang) file.instances (λ k fallback inside. instance-short lang (get_or file.instances k fallback) language (is.instances_are k fallback inside)) is.few_instances in
    let whole = ap length (joined-parts printed_line header domain end relations instances) ∙ length-parts (printed_line header) (printed_line domain) (joined printed_line relations) (joined printed_line instances) (printed_line end) in
    omega (arith, whole, first, second, third)
