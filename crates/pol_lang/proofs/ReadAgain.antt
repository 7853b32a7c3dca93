-- The canonical text of a file is spelled as the file, and so it is read again as the file.
use Rattle.std.proofs.Common.{◌≡◌, ℕ, List, [], ◌∷◌, ◌++◌, ◌+◌, ◌^◌, ◌<◌, All, Any, Ok, map, flat_map, length, length-append, codes, decimal, get_or, suc, true, refl, sym, ap, ap₂, ◌∙◌, arith}
use Rattle.std.specs.List.{AllZip, AllByRecursion}
use Rattle.std.proofs.lemmas.List.{append-nil, length_push}
use Rattle.std.proofs.lemmas.List.Elements.{All-head, All-tail, All-map, Contains-get_or, recursion_from_All}
use Rattle.pol_text.specs.Texts.{line_front, printed_line}
use Rattle.pol_text.specs.Lines.{is_name, lines_of, significant_among, significant_lines}
use Rattle.pol_text.proofs.PrintedLines.{printed_lines, views_of, significant_among-printed, length-lines_of-printed, number_of-decimal, IsPrintedLine}
use Rattle.pol_base.proofs.MemberLemmas.{in_map}
use Rattle.pol_relation.specs.Relations.{NamedRelation, IsRelation, LanguageView}
use Rattle.pol_lang.specs.Files.{FileView, Parsed, IsFile}
use Rattle.pol_lang.specs.Grammar.{parse}
use Rattle.pol_lang.specs.Spelling.{Write, Block, block_lines, Spells, instance_lines, IsSpelled}
use Rattle.pol_lang.specs.Texts.{tuple_tokens, relation_lines, entry_lines, file_lines, file_text}
use Rattle.pol_lang.proofs.PrintedFiles.{file_lines-printed, few_values}
use Rattle.pol_lang.proofs.SpellingLemmas.{Any-contains}
use Rattle.pol_lang.proofs.SpelledTexts.{spelled-parses}

-- ---- relations

-- the canonical lines of a relation are those of a block
abbrev block_of : NamedRelation → Block
block_of named = record { name = named.name; arity = decimal named.relation.arity; tuples = map (λ row. map decimal row) named.relation.rows }

tuple_lines : (rows : List (List ℕ)) → map (λ values. codes "tuple" ∷ values) (map (λ row. map decimal row) rows) ≡ map tuple_tokens rows
tuple_lines [] = refl
tuple_lines (row ∷ rows) = ap (λ lines. tuple_tokens row ∷ lines) (tuple_lines rows)

blocks_lines : (relations : List NamedRelation) → flat_map block_lines (map block_of relations) ≡ flat_map relation_lines relations
blocks_lines [] = refl
blocks_lines (named ∷ rest) = ap₂ (λ lines later. (codes "relation" ∷ named.name ∷ decimal named.relation.arity ∷ []) ∷ lines ++ later) (tuple_lines named.relation.rows) (blocks_lines rest)

decimals-write : (values : List ℕ) → All (λ v. v < 10 ^ 9) values → Write (map decimal values) values
decimals-write [] small = refl
decimals-write (v ∷ values) small =
    ap₂ (λ first later. first ∷ later) (number_of-decimal v (All-head (λ w. w < 10 ^ 9) v values small)) (decimals-write values (All-tail (λ w. w < 10 ^ 9) v values small))

block_of-spells : (named : NamedRelation) → is_name named.name ≡ true → IsRelation named.relation → Spells (block_of named) named
block_of-spells named name_is is = record {
  is_name = name_is;
  same_name = refl;
  arity_is = number_of-decimal named.relation.arity (omega (arith, is.few_places));
  rows_only = All-map (λ tokens. Any (Write tokens) rows) (λ row. map decimal row) rows (λ k d inside. Any-contains (Write (map decimal (get_or rows k d))) rows (get_or rows k d) (Contains-get_or rows k d inside) (write k d inside));
  each_row = λ k d inside. Any-contains (λ tokens. Write tokens (get_or rows k d)) (map (λ row. map decimal row) rows) (map decimal (get_or rows k d)) (in_map (λ row. map decimal row) rows (get_or rows k d) (Contains-get_or rows k d inside)) (write k d inside);
}
  where
    rows : List (List ℕ)
    rows = named.relation.rows

    write : (k : ℕ) (d : List ℕ) → k < length rows → Write (map decimal (get_or rows k d)) (get_or rows k d)
    write k d inside = decimals-write (get_or rows k d) (few_values named.relation.domain named.relation.arity (get_or rows k d) is.domain_is.few (is.tuples k d inside))

blocks-spell : (relations : List NamedRelation) → All (λ named. is_name named.name ≡ true) relations → All (λ named. IsRelation named.relation) relations → AllZip Spells (map block_of relations) relations
blocks-spell [] named are = tt
blocks-spell (e ∷ rest) named are =
    (block_of-spells e (All-head (λ f. is_name f.name ≡ true) e rest named) (All-head (λ f. IsRelation f.relation) e rest are), blocks-spell rest (All-tail (λ f. is_name f.name ≡ true) e rest named) (All-tail (λ f. IsRelation f.relation) e rest are))

-- ---- lines

tokens-views_of : (number place : ℕ) (lines : List (List (List ℕ))) → map (λ l. l.tokens) (views_of number place lines) ≡ lines
tokens-views_of number place [] = refl
tokens-views_of number place (tokens ∷ lines) = ap (λ more. tokens ∷ more) (tokens-views_of (number + 1) (place + length (line_front tokens ++ 10 ∷ [])) lines)

views_of-push : (number place : ℕ) (lines : List (List (List ℕ))) (tokens : List (List ℕ)) → views_of number place (lines ++ tokens ∷ []) ≡ views_of number place lines ++ record { number = number + length lines; tokens = tokens; after = place + length (printed_lines (lines ++ tokens ∷ [])) } ∷ []
views_of-push number place [] tokens =
    let same : number + 0 ≡ number = omega arith in
    rw (same, append-nil (printed_line tokens)) refl
views_of-push number place (first ∷ lines) tokens =
    let after = place + length (line_front first ++ 10 ∷ []) in
    let rest = printed_lines (lines ++ tokens ∷ []) in
    let numbers : number + 1 + length lines ≡ number + suc (length lines) = omega arith in
    let places : after + length rest ≡ place + length (printed_line first ++ rest) = omega (arith, length-append (printed_line first) rest) in
    ap (λ views. record { number = number; tokens = first; after = after } ∷ views) (views_of-push (number + 1) after lines tokens ∙ rw (numbers, places) refl)

-- ---- files

-- what is found of a canonical text: the file, which ends with the text
abbrev whole : FileView → Parsed
whole file = record { file = file; place = length (file_text file); line = length (lines_of (file_text file)) + 1 }

file_text-spelled : (file : FileView) → IsFile file → IsSpelled (significant_lines 1 (file_text file)) (whole file)
file_text-spelled file is = record {
  version = codes "1";
  domain = decimal lang.domain;
  blocks = map block_of lang.relations;
  front = views_of 1 0 lines;
  last = record { number = 1 + length lines; tokens = codes "end" ∷ []; after = 0 + length (file_text file) };
  rest = [];
  version_is = refl;
  domain_is = number_of-decimal lang.domain (omega (arith, is.language_is.is_language.domain_is.few));
  relations_are = blocks-spell lang.relations is.language_is.names_are (λ k d inside. (is.language_is.is_language.relations_are k d inside).is_relation);
  is_file = is;
  lines_are = ap (λ bytes. significant_among 1 0 (lines_of bytes)) (sym (append-nil (file_text file))) ∙ (significant_among-printed 1 0 (file_lines file) [] each ∙ (append-nil (views_of 1 0 (file_lines file)) ∙ views_of-push 1 0 lines (codes "end" ∷ [])));
  front_is = tokens-views_of 1 0 lines ∙ ap (λ first. (codes "polyanna" ∷ codes "1" ∷ []) ∷ (codes "domain" ∷ decimal lang.domain ∷ []) ∷ first ++ flat_map (instance_lines lang) file.instances) (sym (blocks_lines lang.relations));
  last_is = refl;
  place_is = omega arith;
  line_is = omega (arith, length-lines_of-printed (file_lines file) each, length_push lines (codes "end" ∷ []));
}
  where
    lang : LanguageView
    lang = file.language

    -- the lines before `end`
    lines : List (List (List ℕ))
    lines = (codes "polyanna" ∷ codes "1" ∷ []) ∷ (codes "domain" ∷ decimal lang.domain ∷ []) ∷ entry_lines file

    each : AllByRecursion IsPrintedLine (file_lines file)
    each = recursion_from_All IsPrintedLine (file_lines file) (file_lines-printed file is)

-- the canonical text of a file is read again as the file
pub parse-file_text : (file : FileView) → IsFile file → parse (file_text file) ≡ Ok (record { file = file; place = length (file_text file); line = length (lines_of (file_text file)) + 1 })
parse-file_text file is = spelled-parses (file_text file) (whole file) (file_text-spelled file is)
