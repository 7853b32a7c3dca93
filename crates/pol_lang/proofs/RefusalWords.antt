-- No text is refused by the grammar as too long: that word is given to inputs before they are read as a text.
use Rattle.std.proofs.Common.{◌≡◌, ◌≢◌, ℕ, Bool, true, false, cond, List, [], ◌∷◌, ◌++◌, length, drop, ◌+◌, ◌-◌, not, nat_lt, nat_le, Option, Some, None, Result, Ok, Err, subst}
use Rattle.pol_base.specs.Lists.{is_among}
use Rattle.pol_text.specs.declared.word.Word.{Word}
use Rattle.pol_text.specs.declared.word.Word.TheVariants.{BadLine, BadNumber, BadName, RepeatedName, ValueOutside, TooManyInstances, TooManyVariables, TooLong}
use Rattle.pol_text.specs.declared.refusal.Refusal.{Refusal}
use Rattle.pol_text.specs.Lines.{LineView, significant_lines, lines_of, number_of, token_at, is_name}
use Rattle.pol_text.specs.Reading.{unless, after_number, after_values, after_line, end_line}
use Rattle.pol_relation.specs.Relations.{LanguageView}
use Rattle.pol_lang.specs.Files.{FileView, Parsed, with_instance, instance_names}
use Rattle.pol_lang.specs.Grammar.{header_line, domain_line, begun_relation, relation_line, values_of, with_tuple, tuple_line, language_line, names_of_tokens, after_names, instance_line, scope_of, with_scope, constraint_line, in_language, entry_line, rest_of_file, file_from_domain, file_of, parse}

-- a word for a text
abbrev IsForTexts : Word → Type 0
IsForTexts TooLong = ⊥
IsForTexts _ = Unit {0}

-- the word of a refusal is one for a text
abbrev Word-fits : {A : Type 0} → Result A Word → Type 0
Word-fits (Ok x) = Unit {0}
Word-fits (Err word) = IsForTexts word

record IsOther {A : Type 0} (read : Result A Word) : Type 0 where
  fits : Word-fits read

accepted : {A : Type 0} (x : A) → IsOther (Ok x)
accepted x = record { fits = tt }

tested : {A : Type 0} (passes : Bool) (word : Word) {next : Result A Word} → IsForTexts word → IsOther next → IsOther (unless passes word next)
tested true word other rest = rest
tested false word other rest = record { fits = other }

numbered : {A : Type 0} (number : Option ℕ) (word : Word) {next : ℕ → Result A Word} → IsForTexts word → ((n : ℕ) → IsOther (next n)) → IsOther (after_number number word next)
numbered None word other rest = record { fits = other }
numbered (Some n) word other rest = rest n

valued : {A : Type 0} {values : Result (List ℕ) Word} {next : List ℕ → Result A Word} → IsOther values → ((vs : List ℕ) → IsOther (next vs)) → IsOther (after_values values next)
valued {values = Ok vs} read rest = rest vs
valued {values = Err word} read rest = record { fits = read.fits }

named : {A : Type 0} {names : Result (List (List ℕ)) Word} {next : List (List ℕ) → Result A Word} → IsOther names → ((ns : List (List ℕ)) → IsOther (next ns)) → IsOther (after_names names next)
named {names = Ok ns} read rest = rest ns
named {names = Err word} read rest = record { fits = read.fits }

either : {A : Type 0} (test : Bool) {one other : Result A Word} → IsOther one → IsOther other → IsOther (cond test one other)
either true one other = one
either false one other = other

header_line-other : (tokens : List (List ℕ)) → IsOther (header_line tokens)
unfolding header_line
header_line-other tokens = search (tested, numbered, accepted)

domain_line-other : (tokens : List (List ℕ)) → IsOther (domain_line tokens)
unfolding domain_line
domain_line-other tokens = search (tested, numbered, accepted)

begun_relation-other : (lang : LanguageView) (name : List ℕ) (arity : ℕ) → IsOther (begun_relation lang name arity)
unfolding begun_relation
begun_relation-other lang name arity = search (tested, accepted)

relation_line-other : (lang : LanguageView) (tokens : List (List ℕ)) → IsOther (relation_line lang tokens)
unfolding relation_line
relation_line-other lang tokens = search (tested, numbered, begun_relation-other)

values_of-other : (d : ℕ) (tokens : List (List ℕ)) → IsOther (values_of d tokens)
values_of-other d [] = accepted []
values_of-other d (t ∷ ts) =
    numbered (number_of t) BadNumber tt (λ v. tested (nat_lt v d) ValueOutside tt (valued {values = values_of d ts} {next = λ vs. Ok (v ∷ vs)} (values_of-other d ts) (λ vs. accepted (v ∷ vs))))

with_tuple-other : (lang : LanguageView) (t : List ℕ) → IsOther (with_tuple lang t)
unfolding with_tuple
with_tuple-other lang t = search (either, tested, accepted)

tuple_line-other : (lang : LanguageView) (tokens : List (List ℕ)) → IsOther (tuple_line lang tokens)
unfolding tuple_line
tuple_line-other lang tokens = search (tested, valued, values_of-other, with_tuple-other)

language_line-other : (lang : LanguageView) (tokens : List (List ℕ)) → IsOther (language_line lang tokens)
unfolding language_line
language_line-other lang tokens = search (either, tested, relation_line-other, tuple_line-other)

names_of_tokens-other : (tokens before : List (List ℕ)) → IsOther (names_of_tokens before tokens)
names_of_tokens-other [] before = accepted before
names_of_tokens-other (t ∷ ts) before = tested (is_name t) BadName tt (tested (not (is_among before t)) RepeatedName tt (names_of_tokens-other ts (before ++ t ∷ [])))

begun_instance-other : (file : FileView) (name : List ℕ) (tokens : List (List ℕ)) → IsOther (after_names (names_of_tokens [] tokens) (λ variables. Ok (with_instance file (record { name = name; variables = variables; constraints = [] }))))
begun_instance-other file name tokens = named {names = names_of_tokens [] tokens} {next = λ variables. Ok (with_instance file (record { name = name; variables = variables; constraints = [] }))} (names_of_tokens-other tokens []) (λ variables. accepted _)

instance_line-other : (file : FileView) (tokens : List (List ℕ)) → IsOther (instance_line file tokens)
unfolding instance_line
instance_line-other file tokens =
    let begun = begun_instance-other file (token_at tokens 1) (drop 2 tokens) in
    tested (nat_le 3 (length tokens)) BadLine tt (tested (is_name (token_at tokens 1)) BadName tt (tested (not (is_among (instance_names file) (token_at tokens 1))) RepeatedName tt
    (tested (nat_lt (length file.instances) 8) TooManyInstances tt (tested (nat_le (length tokens - 2) 40) TooManyVariables tt begun))))

scope_of-other : (variables tokens : List (List ℕ)) → IsOther (scope_of variables tokens)
scope_of-other variables [] = accepted []
scope_of-other variables (t ∷ ts) = let rest = scope_of-other variables ts in search (numbered, valued, accepted, rest)

with_scope-other : (file : FileView) (relation : ℕ) (scope : List ℕ) → IsOther (with_scope file relation scope)
unfolding with_scope
with_scope-other file relation scope = search (tested, accepted)

constraint_line-other : (file : FileView) (tokens : List (List ℕ)) → IsOther (constraint_line file tokens)
unfolding constraint_line
constraint_line-other file tokens = search (tested, numbered, valued, scope_of-other, with_scope-other)

in_language-other : (file : FileView) (read : Result LanguageView Word) → IsOther read → IsOther (in_language file read)
in_language-other file (Ok lang) other = accepted _
in_language-other file (Err word) other = record { fits = other.fits }

entry_line-other : (file : FileView) (tokens : List (List ℕ)) → IsOther (entry_line file tokens)
unfolding entry_line
entry_line-other file tokens = search (either, tested, instance_line-other, constraint_line-other, in_language-other, language_line-other)

end_line-other : (tokens : List (List ℕ)) → IsOther (end_line tokens)
end_line-other tokens = search (tested, accepted)

-- the same of a refusal with its line
abbrev Refusal-fits : {A : Type 0} → Result A Refusal → Type 0
Refusal-fits (Ok x) = Unit {0}
Refusal-fits (Err refusal) = IsForTexts refusal.word

record TellsOther {A : Type 0} (read : Result A Refusal) : Type 0 where
  fits : Refusal-fits read

lined : {A B : Type 0} (l : LineView) {read : Result A Word} {next : A → Result B Refusal} → IsOther read → ((x : A) → TellsOther (next x)) → TellsOther (after_line l read next)
lined l {read = Ok x} other rest = rest x
lined l {read = Err word} other rest = record { fits = other.fits }

by_keyword : (ends : Bool) {one other : Result Parsed Refusal} → TellsOther one → TellsOther other → TellsOther (cond ends one other)
by_keyword true one other = one
by_keyword false one other = other

rest_of_file-other : (file : FileView) (last : ℕ) (ls : List LineView) → TellsOther (rest_of_file file last ls)
rest_of_file-other file last [] = record { fits = tt }
rest_of_file-other file last (l ∷ ls) = by_keyword _ (lined l (end_line-other l.tokens) (λ _. record { fits = tt })) (lined l (entry_line-other file l.tokens) (λ next. rest_of_file-other next last ls))

file_from_domain-other : (last : ℕ) (ls : List LineView) → TellsOther (file_from_domain last ls)
file_from_domain-other last [] = record { fits = tt }
file_from_domain-other last (l ∷ ls) = lined l (domain_line-other l.tokens) (λ d. rest_of_file-other _ last ls)

file_of-other : (last : ℕ) (ls : List LineView) → TellsOther (file_of last ls)
file_of-other last [] = record { fits = tt }
file_of-other last (l ∷ ls) = lined l (header_line-other l.tokens) (λ _. file_from_domain-other last ls)

-- a text that the grammar refuses is not refused as too long
pub parse-word : (bytes : List ℕ) (refusal : Refusal) → parse bytes ≡ Err refusal → refusal.word ≢ TooLong
unfolding parse
parse-word bytes refusal e same = subst IsForTexts same (subst Refusal-fits e (file_of-other (length (lines_of bytes) + 1) (significant_lines 1 bytes)).fits)
