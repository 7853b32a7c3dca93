-- The grammar of files: which texts are accepted, as which file, and the first refusal of every other text.
-- Each test of a line stands on a line of its own, and the first that fails gives the word.
use Rattle.std.specs.Prelude.{ℕ, ◌+◌, ◌-◌, ◌^◌, ◌==◌, nat_lt, nat_le, ◌&&◌, not}
use Rattle.std.specs.Prelude.{if◌then◌else◌, List, [], ◌∷◌, ◌++◌}
use Rattle.std.specs.Prelude.{length, drop, codes, Option, Some, None, Result, Ok, Err}
use Rattle.pol_base.specs.Lists.{is_among, place_in}
use Rattle.pol_relation.specs.Relations.{LanguageView, names_of, last_of, with_last_row, relation_of}
use Rattle.pol_relation.specs.Weights.{subset_weight_of, weight_of, most_weight}
use Rattle.pol_text.specs.Lines.{LineView, lines_of, significant_lines, token_at, number_of, is_name}
use Rattle.pol_text.specs.Reading.{unless, after_number, after_values, after_line, begins_with, end_line}
use Rattle.pol_text.specs.declared.refusal.Refusal.{Refusal}
use Rattle.pol_text.specs.declared.word.Word.{Word}
use Rattle.pol_text.specs.declared.word.Word.TheVariants.{NoHeader, BadVersion, BadDomain, BadLine, BadNumber}
use Rattle.pol_text.specs.declared.word.Word.TheVariants.{BadName, RepeatedName, BadArity, ValueOutside, ShortTuple}
use Rattle.pol_text.specs.declared.word.Word.TheVariants.{LongTuple, TooManyRelations, TooManyTuples}
use Rattle.pol_text.specs.declared.word.Word.TheVariants.{TooManyInstances, TooManyVariables, TooManyConstraints}
use Rattle.pol_text.specs.declared.word.Word.TheVariants.{TripleLimit, SubsetLimit, UnknownRelation, UnknownVariable}
use Rattle.pol_text.specs.declared.word.Word.TheVariants.{Ended}
use Rattle.pol_lang.specs.Files.{FileView, instance_names, with_empty_relation, with_language, begun_instance}
use Rattle.pol_lang.specs.Files.{with_instance, last_instance, with_last_constraint, Parsed}
use Rattle.pol_lang.specs.Limits.{most_relations, most_tuples, most_instances, most_variables, most_constraints}

-- ---- the first two lines

-- `polyanna 1`, which gives the version
unfoldable pub header_line : List (List ℕ) → Result ℕ Word
header_line tokens =
    unless (begins_with (codes "polyanna") tokens) NoHeader
    (unless (length tokens == 2) BadVersion
    (after_number (number_of (token_at tokens 1)) BadVersion (λ version.
    unless (version == 1) BadVersion
    (Ok version))))

-- `domain N`, which gives the domain's size
unfoldable pub domain_line : List (List ℕ) → Result ℕ Word
domain_line tokens =
    unless (begins_with (codes "domain") tokens) BadLine
    (unless (length tokens == 2) BadLine
    (after_number (number_of (token_at tokens 1)) BadNumber (λ d.
    unless (nat_le 1 d && nat_le d 5) BadDomain
    (Ok d))))

-- ---- relations

-- the sum of the vectors of nonempty sets, with a relation more of the arity
abbrev pub subsets_with : LanguageView → ℕ → ℕ
subsets_with lang arity = subset_weight_of lang.domain lang.relations + (2 ^ lang.domain - 1) ^ arity

-- the language with a relation of the name and the arity that has no rows yet
unfoldable pub begun_relation : LanguageView → List ℕ → ℕ → Result LanguageView Word
begun_relation lang name arity =
    unless (nat_le 1 arity && nat_le arity 6) BadArity
    (unless (nat_lt (length lang.relations) most_relations) TooManyRelations
    (unless (nat_le (subsets_with lang arity) most_weight) SubsetLimit
    (Ok (with_empty_relation lang name arity))))

-- `relation NAME ARITY`, which begins a relation without rows
unfoldable pub relation_line : LanguageView → List (List ℕ) → Result LanguageView Word
relation_line lang tokens =
    unless (length tokens == 3) BadLine
    (unless (is_name (token_at tokens 1)) BadName
    (unless (not (is_among (names_of lang) (token_at tokens 1))) RepeatedName
    (after_number (number_of (token_at tokens 2)) BadNumber
    (begun_relation lang (token_at tokens 1)))))

-- ---- tuples

-- the values that the tokens write, judged from left to right
abbrev pub values_of : ℕ → List (List ℕ) → Result (List ℕ) Word
values_of d [] = Ok []
values_of d (t ∷ ts) =
    after_number (number_of t) BadNumber (λ v.
    unless (nat_lt v d) ValueOutside
    (after_values (values_of d ts) (λ vs.
    Ok (v ∷ vs))))

-- the last relation with the tuple; one that is there changes nothing
unfoldable pub with_tuple : LanguageView → List ℕ → Result LanguageView Word
with_tuple lang t =
    if is_among (last_of lang).rows t then Ok lang else
    unless (nat_lt (length (last_of lang).rows) most_tuples) TooManyTuples
    (unless (nat_le (weight_of 3 (with_last_row lang t).relations) most_weight) TripleLimit
    (Ok (with_last_row lang t)))

-- `tuple V1 .. Vn`, which belongs to the last relation
unfoldable pub tuple_line : LanguageView → List (List ℕ) → Result LanguageView Word
tuple_line lang tokens =
    unless (nat_le (last_of lang).arity (length tokens - 1)) ShortTuple
    (unless (nat_le (length tokens - 1) (last_of lang).arity) LongTuple
    (after_values (values_of lang.domain (drop 1 tokens))
    (with_tuple lang)))

-- a relation, or a tuple where a relation has been begun
unfoldable pub language_line : LanguageView → List (List ℕ) → Result LanguageView Word
language_line lang tokens =
    if begins_with (codes "relation") tokens then relation_line lang tokens else
    unless (begins_with (codes "tuple") tokens && nat_lt 0 (length lang.relations)) BadLine
    (tuple_line lang tokens)

-- ---- instances

-- the names of the tokens behind the names before, judged from left to right
abbrev pub names_of_tokens : List (List ℕ) → List (List ℕ) → Result (List (List ℕ)) Word
names_of_tokens before [] = Ok before
names_of_tokens before (t ∷ ts) =
    unless (is_name t) BadName
    (unless (not (is_among before t)) RepeatedName
    (names_of_tokens (before ++ t ∷ []) ts))

-- what comes next with the names, and else the word
abbrev pub after_names : {A : Type 0} → Result (List (List ℕ)) Word → (List (List ℕ) → Result A Word)
    → Result A Word
after_names (Err word) next = Err word
after_names (Ok names) next = next names

-- `instance NAME X1 .. Xn`, which begins an instance without constraints
unfoldable pub instance_line : FileView → List (List ℕ) → Result FileView Word
instance_line file tokens =
    unless (nat_le 3 (length tokens)) BadLine
    (unless (is_name (token_at tokens 1)) BadName
    (unless (not (is_among (instance_names file) (token_at tokens 1))) RepeatedName
    (unless (nat_lt (length file.instances) most_instances) TooManyInstances
    (unless (nat_le (length tokens - 2) most_variables) TooManyVariables
    (after_names (names_of_tokens [] (drop 2 tokens)) (λ variables.
    Ok (with_instance file (begun_instance (token_at tokens 1) variables))))))))

-- ---- constraints

-- the numbers of the variables that the tokens name, judged from left to right
abbrev pub scope_of : List (List ℕ) → List (List ℕ) → Result (List ℕ) Word
scope_of variables [] = Ok []
scope_of variables (t ∷ ts) =
    after_number (place_in variables t) UnknownVariable (λ x.
    after_values (scope_of variables ts) (λ xs.
    Ok (x ∷ xs)))

-- the last instance with a constraint of the relation on the scope
unfoldable pub with_scope : FileView → ℕ → List ℕ → Result FileView Word
with_scope file relation scope =
    unless (nat_lt (length (last_instance file).constraints) most_constraints) TooManyConstraints
    (Ok (with_last_constraint file (record { relation = relation; scope = scope })))

-- `constraint RELATION X1 .. Xn`, which belongs to the last instance
unfoldable pub constraint_line : FileView → List (List ℕ) → Result FileView Word
constraint_line file tokens =
    unless (nat_le 2 (length tokens)) BadLine
    (after_number (place_in (names_of file.language) (token_at tokens 1)) UnknownRelation (λ relation.
    unless (length tokens - 2 == (relation_of file.language relation).arity) BadArity
    (after_values (scope_of (last_instance file).variables (drop 2 tokens))
    (with_scope file relation))))

-- ---- texts

-- the file with what the line makes of its language
abbrev pub in_language : FileView → Result LanguageView Word → Result FileView Word
in_language file (Err word) = Err word
in_language file (Ok lang) = Ok (with_language file lang)

-- relations and tuples stand before the first instance, a tuple behind a relation, a constraint behind an instance
unfoldable pub entry_line : FileView → List (List ℕ) → Result FileView Word
entry_line file tokens =
    if begins_with (codes "instance") tokens then instance_line file tokens else
    (if begins_with (codes "constraint") tokens
    then unless (nat_lt 0 (length file.instances)) BadLine (constraint_line file tokens)
    else unless (length file.instances == 0) BadLine (in_language file (language_line file.language tokens)))

-- the lines behind the `domain` line: what was read so far, and the line for an early end
abbrev pub rest_of_file : FileView → ℕ → List LineView → Result Parsed Refusal
rest_of_file file last [] = Err (record { line = last; word = Ended })
rest_of_file file last (l ∷ ls) =
    if begins_with (codes "end") l.tokens
    then after_line l (end_line l.tokens) (λ _. Ok (record { file = file; place = l.after; line = l.number + 1 }))
    else after_line l (entry_line file l.tokens) (λ next. rest_of_file next last ls)

-- the file without relations and instances
abbrev pub begun_file : ℕ → FileView
begun_file d = record { language = record { domain = d; relations = [] }; instances = [] }

-- the lines behind the first one
abbrev pub file_from_domain : ℕ → List LineView → Result Parsed Refusal
file_from_domain last [] = Err (record { line = last; word = Ended })
file_from_domain last (l ∷ ls) =
    after_line l (domain_line l.tokens) (λ d.
    rest_of_file (begun_file d) last ls)

-- all significant lines
abbrev pub file_of : ℕ → List LineView → Result Parsed Refusal
file_of last [] = Err (record { line = last; word = NoHeader })
file_of last (l ∷ ls) =
    after_line l (header_line l.tokens) (λ _.
    file_from_domain last ls)

-- the file that the text begins with, or its first refusal; a text that ends early is refused behind its last line
unfoldable pub parse : List ℕ → Result Parsed Refusal
parse bytes = file_of (length (lines_of bytes) + 1) (significant_lines 1 bytes)

-- ---- behind a file

-- the number of the first of the lines
abbrev pub first_number : List LineView → Option ℕ
first_number [] = None
first_number (l ∷ ls) = Some l.number

-- the number of the first significant line from the place on, where the line that begins there has the number
unfoldable pub extra : List ℕ → ℕ → ℕ → Option ℕ
extra bytes place line = first_number (significant_lines line (drop place bytes))
