-- A text that the grammar accepts is spelled as its file: line by line, the lines so far are those of blocks that say the language so far, and behind them those of the instances so far.
use Rattle.std.proofs.Common.{List, [], Any, Contains, ◌∷◌, ◌++◌, ℕ, ◌≡◌, ap, codes, flat_map, sym, ◌∙◌, append_assoc, append-nil, map, length, get_or, ◌<◌, arith, refl, true, Some, ap₂, subst, drop, ◌-◌, ◌≤◌, Bool, false, cond, nat_lt, ◌&&◌, Ok, eqb, Result, ◌+◌}
use Rattle.std.specs.List.{AllZip}
use Rattle.std.proofs.lemmas.Bool.{ltb-true, and_parts, eqb-true}
use Rattle.std.proofs.lemmas.List.{map_push, nil_from_length}
use Rattle.std.proofs.lemmas.List.Concat.{flat_map-append}
use Rattle.std.proofs.lemmas.List.Elements.{All-push, All-weaker, Contains-push, Contains-append_left, All-nil, All-get_or}
use Rattle.pol_lang.specs.Spelling.{Block, block_lines, Write, Spells, instance_lines, constraint_tokens, IsSpelled}
use Rattle.pol_relation.proofs.RelationLemmas.{AreLong, All-with_row, Contains-with_row, Contains-with_row_old, IsRelation-begun, AreLong-tuples, IsRelationOver-relation_of}
use Rattle.pol_relation.specs.Relations.{NamedRelation, with_row_in, with_row, with_row_at_last, LanguageView, RelationView, IsLanguage, IsRelationOver, last_of, relation_of, no_named}
use Rattle.pol_text.specs.Lines.{is_name, number_of, token_at, LineView, lines_of, significant_lines}
use Rattle.pol_relation.proofs.SumLemmas.{last_named, last_place}
use Rattle.pol_lang.specs.Files.{IsFileLanguage, FileView, IsFile, IsFileInstance, no_instance, with_constraint_at_last, last_instance, Parsed}
use Rattle.pol_base.specs.Tuples.{IsDomain, IsTuple}
use Rattle.pol_lang.proofs.FileLemmas.{IsFileLanguage-begun, IsFileLanguage-with_relation, IsFileLanguage-with_last_row, IsFile-without_instances, IsFileInstance-begun, IsFile-with_instance, IsFile-with_last_constraint}
use Rattle.pol_lang.proofs.AcceptedLines.{WritesRelation, WritesTuple, relation_line-writes, tuple_line-writes, WritesInstance, WritesConstraint, instance_line-writes, constraint_line-writes, in_language-ok, WritesNumber, WritesDomain, header_line-writes, domain_line-writes}
use Rattle.pol_lang.proofs.LineSteps.{Reads, ReadsToEnd, reads-rest_of_file}
use Rattle.pol_text.proofs.ReadingLemmas.{begins_with-rest, unless-ok, begins_with-first, after_line-ok}
use Rattle.pol_text.specs.declared.word.Word.TheVariants.{BadLine}
use Rattle.pol_text.specs.Reading.{unless, begins_with}
use Rattle.pol_lang.specs.Grammar.{relation_line, tuple_line, language_line, instance_line, constraint_line, in_language, entry_line, rest_of_file, header_line, domain_line, begun_file, file_from_domain, file_of, parse}
use Rattle.pol_relation.specs.Instances.{InstanceView, ConstraintView, with_constraint}
use Rattle.pol_text.specs.declared.word.Word.{Word}

-- ---- lists

pub Any-contains : {X : Type 0} (P : X → Type 0) (xs : List X) (x : X) → Contains xs x → P x → Any P xs
Any-contains P xs x inside holds = (inside.0, x, inside.1, inside.2, holds)

AllZip-pushed : {X Y : Type 0} (R : X → Y → Type 0) (xs : List X) (ys : List Y) (x : X) (y : Y) → AllZip R xs ys → R x y → AllZip R (xs ++ x ∷ []) (ys ++ y ∷ [])
AllZip-pushed R [] [] x y zipped holds = (holds, tt)
AllZip-pushed R [] (b ∷ bs) x y zipped holds = absurd zipped
AllZip-pushed R (a ∷ more) [] x y zipped holds = absurd zipped
AllZip-pushed R (a ∷ more) (b ∷ bs) x y zipped holds = (zipped.0, AllZip-pushed R more bs x y zipped.1 holds)

-- ---- blocks

-- the block with a tuple line more
abbrev with_line : Block → List (List ℕ) → Block
with_line block tokens = record { name = block.name; arity = block.arity; tuples = block.tuples ++ tokens ∷ [] }

-- the last block has the tuple line too
abbrev with_line_at_last : List (List ℕ) → List Block → List Block
with_line_at_last tokens [] = []
with_line_at_last tokens (b ∷ []) = with_line b tokens ∷ []
with_line_at_last tokens (b ∷ c ∷ rest) = b ∷ with_line_at_last tokens (c ∷ rest)

block_lines-with_line : (b : Block) (tokens : List (List ℕ)) → block_lines (with_line b tokens) ≡ block_lines b ++ (codes "tuple" ∷ tokens) ∷ []
block_lines-with_line b tokens = ap (λ ls. (codes "relation" ∷ b.name ∷ b.arity ∷ []) ∷ ls) (map_push (λ values. codes "tuple" ∷ values) b.tuples tokens)

block_lines-with_line_at_last : (tokens : List (List ℕ)) (b : Block) (rest : List Block) → flat_map block_lines (with_line_at_last tokens (b ∷ rest)) ≡ flat_map block_lines (b ∷ rest) ++ (codes "tuple" ∷ tokens) ∷ []
block_lines-with_line_at_last tokens b [] =
    append-nil (block_lines (with_line b tokens)) ∙ (block_lines-with_line b tokens ∙ ap (λ ls. ls ++ (codes "tuple" ∷ tokens) ∷ []) (sym (append-nil (block_lines b))))
block_lines-with_line_at_last tokens b (c ∷ rest) =
    ap (λ ls. block_lines b ++ ls) (block_lines-with_line_at_last tokens c rest) ∙ sym (append_assoc (block_lines b) (flat_map block_lines (c ∷ rest)) ((codes "tuple" ∷ tokens) ∷ []))

block_lines-push : (blocks : List Block) (b : Block) → b.tuples ≡ [] → flat_map block_lines (blocks ++ b ∷ []) ≡ flat_map block_lines blocks ++ (codes "relation" ∷ b.name ∷ b.arity ∷ []) ∷ []
block_lines-push blocks b none =
    let alone : block_lines b ≡ (codes "relation" ∷ b.name ∷ b.arity ∷ []) ∷ [] = ap (λ tuples. (codes "relation" ∷ b.name ∷ b.arity ∷ []) ∷ map (λ values. codes "tuple" ∷ values) tuples) none in
    flat_map-append block_lines blocks (b ∷ []) ∙ ap (λ ls. flat_map block_lines blocks ++ ls) (append-nil (block_lines b) ∙ alone)

-- the tuple is as long as the rows
record FitsRows (t : List ℕ) (named : NamedRelation) : Type 0 where
  long : length t ≡ named.relation.arity
  rows_long : AreLong named.relation.arity named.relation.rows

-- a row more, and a line that writes it
Spells-with_line : (b : Block) (named : NamedRelation) (tokens : List (List ℕ)) (t : List ℕ) → Spells b named → FitsRows t named → Write tokens t → Spells (with_line b tokens) (record { name = named.name; relation = with_row_in named.relation t })
Spells-with_line b named tokens t spells fits write = record {
  is_name = spells.is_name;
  same_name = spells.same_name;
  arity_is = spells.arity_is;
  rows_only = All-push (λ line. Any (Write line) rows) b.tuples tokens (All-weaker (λ line. Any (Write line) named.relation.rows) (λ line. Any (Write line) rows) (λ line any. older line any) b.tuples spells.rows_only) (Any-contains (Write tokens) rows t (Contains-with_row named.relation.arity t named.relation.rows fits.long fits.rows_long) write);
  each_row = All-with_row IsWritten named.relation.arity t named.relation.rows fits.long fits.rows_long (Any-contains (λ line. Write line t) lines tokens (Contains-push b.tuples tokens) write) (All-weaker (λ row. Any (λ line. Write line row) b.tuples) IsWritten (λ row any. longer row any) named.relation.rows spells.each_row);
}
  where
    rows : List (List ℕ)
    rows = with_row t named.relation.rows

    lines : List (List (List ℕ))
    lines = b.tuples ++ tokens ∷ []

    IsWritten : List ℕ → Type 0
    IsWritten row = Any (λ line. Write line row) lines

    older : (line : List (List ℕ)) → Any (Write line) named.relation.rows → Any (Write line) rows
    older line any = Any-contains (Write line) rows any.1 (Contains-with_row_old named.relation.arity t any.1 named.relation.rows fits.long fits.rows_long (any.0, any.2, any.3)) any.4

    longer : (row : List ℕ) → Any (λ line. Write line row) b.tuples → IsWritten row
    longer row any = Any-contains (λ line. Write line row) lines any.1 (Contains-append_left b.tuples (tokens ∷ []) any.1 (any.0, any.2, any.3)) any.4

Spells-with_line_at_last : (tokens : List (List ℕ)) (t : List ℕ) (b : Block) (bs : List Block) (e : NamedRelation) (es : List NamedRelation) → AllZip Spells (b ∷ bs) (e ∷ es) → FitsRows t (get_or (e ∷ es) (length es) no_named) → Write tokens t → AllZip Spells (with_line_at_last tokens (b ∷ bs)) (with_row_at_last t (e ∷ es))
Spells-with_line_at_last tokens t b [] e [] spell fits write = (Spells-with_line b e tokens t spell.0 fits write, tt)
Spells-with_line_at_last tokens t b [] e (f ∷ fs) spell fits write = absurd spell.1
Spells-with_line_at_last tokens t b (c ∷ cs) e [] spell fits write = absurd spell.1
Spells-with_line_at_last tokens t b (c ∷ cs) e (f ∷ fs) spell fits write = (spell.0, Spells-with_line_at_last tokens t c cs f fs spell.1 fits write)

blocks-with_line : (tokens : List (List ℕ)) (t : List ℕ) (blocks : List Block) (relations : List NamedRelation) → AllZip Spells blocks relations → FitsRows t (last_named relations) → Write tokens t → AllZip Spells (with_line_at_last tokens blocks) (with_row_at_last t relations)
blocks-with_line tokens t [] [] spell fits write = tt
blocks-with_line tokens t [] (e ∷ es) spell fits write = absurd spell
blocks-with_line tokens t (b ∷ bs) [] spell fits write = absurd spell
blocks-with_line tokens t (b ∷ bs) (e ∷ es) spell fits write = Spells-with_line_at_last tokens t b bs e es spell (rw (last_place (length es)) at fits) write

block_lines-at_last : (tokens : List (List ℕ)) (blocks : List Block) (relations : List NamedRelation) → 0 < length relations → AllZip Spells blocks relations → flat_map block_lines (with_line_at_last tokens blocks) ≡ flat_map block_lines blocks ++ (codes "tuple" ∷ tokens) ∷ []
block_lines-at_last tokens [] [] some spell = absurd (omega arith)
block_lines-at_last tokens [] (e ∷ es) some spell = absurd spell
block_lines-at_last tokens (b ∷ bs) relations some spell = block_lines-with_line_at_last tokens b bs

-- ---- the lines of a language

-- the lines are those of blocks that say the relations, and the language is within the limits
record LanguageSaidBy (d : ℕ) (lines : List (List (List ℕ))) (lang : LanguageView) : Type 0 where
  blocks : List Block
  lines_are : lines ≡ flat_map block_lines blocks
  relations_are : AllZip Spells blocks lang.relations
  within : IsFileLanguage lang
  domain_is : lang.domain ≡ d

said-begun : (d : ℕ) → IsDomain d → LanguageSaidBy d [] (record { domain = d; relations = [] })
said-begun d domain = record {
  blocks = [];
  lines_are = refl;
  relations_are = tt;
  within = IsFileLanguage-begun d domain;
  domain_is = refl;
}

-- a relation without rows is spelled by its name and its arity
Spells-begun : (d arity : ℕ) (name token : List ℕ) → is_name name ≡ true → number_of token ≡ Some arity → Spells (record { name = name; arity = token; tuples = [] }) (record { name = name; relation = record { domain = d; arity = arity; rows = [] } })
Spells-begun d arity name token named number = record {
  is_name = named;
  same_name = refl;
  arity_is = number;
  rows_only = All-nil (λ line. Any (Write line) []);
  each_row = All-nil (λ row. Any (λ line. Write line row) []);
}

said-relation : (d : ℕ) (lines : List (List (List ℕ))) (lang : LanguageView) (tokens : List (List ℕ)) (next : LanguageView) → LanguageSaidBy d lines lang → token_at tokens 0 ≡ codes "relation" → WritesRelation lang tokens next → LanguageSaidBy d (lines ++ tokens ∷ []) next
said-relation d lines lang tokens next said first writes = subst (LanguageSaidBy d (lines ++ tokens ∷ [])) (sym writes.next_is) (record {
  blocks = said.blocks ++ block ∷ [];
  lines_are = ap₂ (λ some line. some ++ line ∷ []) said.lines_are (writes.tokens_are ∙ ap (λ t. t ∷ writes.name ∷ writes.arity_token ∷ []) first) ∙ sym (block_lines-push said.blocks block refl);
  relations_are = AllZip-pushed Spells said.blocks lang.relations block (record { name = writes.name; relation = begun }) said.relations_are (Spells-begun lang.domain writes.arity writes.name writes.arity_token writes.is_name writes.arity_is);
  within = IsFileLanguage-with_relation lang writes.name begun said.within (record { is_relation = IsRelation-begun lang.domain writes.arity is.domain_is writes.some_places writes.few_places; same_domain = refl }) writes.is_name writes.is_new writes.few_relations (omega arith) (omega (arith, said.within.few_triples)) writes.few_subsets;
  domain_is = said.domain_is;
})
  where
    is : IsLanguage lang
    is = said.within.is_language

    begun : RelationView
    begun = record { domain = lang.domain; arity = writes.arity; rows = [] }

    block : Block
    block = record { name = writes.name; arity = writes.arity_token; tuples = [] }

said-tuple : (d : ℕ) (lines : List (List (List ℕ))) (lang : LanguageView) (tokens : List (List ℕ)) (next : LanguageView) → LanguageSaidBy d lines lang → 0 < length lang.relations → IsRelationOver lang.domain (last_of lang) → token_at tokens 0 ≡ codes "tuple" → WritesTuple lang tokens next → LanguageSaidBy d (lines ++ tokens ∷ []) next
said-tuple d lines lang tokens next said some over first writes = subst (LanguageSaidBy d (lines ++ tokens ∷ [])) (sym writes.row.next_is) (record {
  blocks = with_line_at_last (drop 1 tokens) said.blocks;
  lines_are = ap₂ (λ all line. all ++ line ∷ []) said.lines_are (begins_with-rest (codes "tuple") tokens (omega arith) first) ∙ sym (block_lines-at_last (drop 1 tokens) said.blocks lang.relations some said.relations_are);
  relations_are = blocks-with_line (drop 1 tokens) writes.values said.blocks lang.relations said.relations_are fits writes.write;
  within = IsFileLanguage-with_last_row lang writes.values said.within (subst (λ k. IsTuple k (last_of lang).arity writes.values) (sym over.same_domain) writes.tuple) writes.row.few writes.row.few_triples;
  domain_is = said.domain_is;
})
  where
    fits : FitsRows writes.values (last_named lang.relations)
    fits = record { long = writes.tuple.long; rows_long = AreLong-tuples (last_of lang).domain (last_of lang).arity (last_of lang).rows over.is_relation.tuples }

-- an accepted line is one of the lines that say the language with what it adds
said-language_line : (d : ℕ) (lines : List (List (List ℕ))) (lang : LanguageView) (tokens : List (List ℕ)) (next : LanguageView) → LanguageSaidBy d lines lang → language_line lang tokens ≡ Ok next → LanguageSaidBy d (lines ++ tokens ∷ []) next
unfolding language_line
said-language_line d lines lang tokens next said e = by_keyword (begins_with (codes "relation") tokens) (begins_with-first (codes "relation") tokens) e
  where
    at_last : 0 < length lang.relations → length lang.relations - 1 < length lang.relations
    at_last some = omega arith

    by_keyword : (t : Bool) → (t ≡ true → token_at tokens 0 ≡ codes "relation") → cond t (relation_line lang tokens) (unless (begins_with (codes "tuple") tokens && nat_lt 0 (length lang.relations)) BadLine (tuple_line lang tokens)) ≡ Ok next → LanguageSaidBy d (lines ++ tokens ∷ []) next
    by_keyword true first h = said-relation d lines lang tokens next said (first refl) (relation_line-writes lang tokens next h)
    by_keyword false first h =
        let allowed = unless-ok (begins_with (codes "tuple") tokens && nat_lt 0 (length lang.relations)) BadLine (tuple_line lang tokens) next h in
        let parts = and_parts (begins_with (codes "tuple") tokens) (nat_lt 0 (length lang.relations)) allowed.passed in
        let some = ltb-true 0 (length lang.relations) parts.1 in
        let over = All-get_or (λ e. IsRelationOver lang.domain e.relation) lang.relations (length lang.relations - 1) no_named (at_last some) said.within.is_language.relations_are in
        let few = All-get_or (λ e. length e.relation.rows ≤ 128) lang.relations (length lang.relations - 1) no_named (at_last some) said.within.few_tuples in
        said-tuple d lines lang tokens next said some over (begins_with-first (codes "tuple") tokens parts.0) (tuple_line-writes lang tokens next over.is_relation few said.within.few_triples allowed.went_on)

-- ---- the lines of a file

-- the lines are those that say the language, and behind them those of the instances
record SaidBy (d : ℕ) (lines : List (List (List ℕ))) (file : FileView) : Type 0 where
  first : List (List (List ℕ))
  language : LanguageSaidBy d first file.language
  lines_are : lines ≡ first ++ flat_map (instance_lines file.language) file.instances
  is_file : IsFile file

without_instances : (lang : LanguageView) (first : List (List (List ℕ))) (instances : List InstanceView) → length instances ≡ 0 → first ≡ first ++ flat_map (instance_lines lang) instances
without_instances lang first instances none =
    sym (ap (λ some. first ++ flat_map (instance_lines lang) some) (nil_from_length instances none) ∙ append-nil first)

-- lines that say a language say the file that has no instances
said-language : (d : ℕ) (lines : List (List (List ℕ))) (lang : LanguageView) (instances : List InstanceView) → LanguageSaidBy d lines lang → length instances ≡ 0 → SaidBy d lines (record { language = lang; instances = instances })
said-language d lines lang instances said none = record {
  first = lines;
  language = said;
  lines_are = without_instances lang lines instances none;
  is_file = IsFile-without_instances lang instances said.within none;
}

-- a line of the language, before the first instance
said-in_language : (d : ℕ) (lines : List (List (List ℕ))) (file : FileView) (tokens : List (List ℕ)) (lang : LanguageView) → SaidBy d lines file → length file.instances ≡ 0 → language_line file.language tokens ≡ Ok lang → SaidBy d (lines ++ tokens ∷ []) (record { language = lang; instances = file.instances })
said-in_language d lines file tokens lang said none e =
    let same : said.first ≡ lines = without_instances file.language said.first file.instances none ∙ sym said.lines_are in
    said-language d (lines ++ tokens ∷ []) lang file.instances (subst (λ some. LanguageSaidBy d (some ++ tokens ∷ []) lang) same (said-language_line d said.first file.language tokens lang said.language e)) none

-- a line behind the lines of the instances
line_more : (lang : LanguageView) (first lines : List (List (List ℕ))) (tokens : List (List ℕ)) (old new : List InstanceView) → lines ≡ first ++ flat_map (instance_lines lang) old → flat_map (instance_lines lang) new ≡ flat_map (instance_lines lang) old ++ tokens ∷ [] → lines ++ tokens ∷ [] ≡ first ++ flat_map (instance_lines lang) new
line_more lang first lines tokens old new before more =
    ap (λ some. some ++ tokens ∷ []) before ∙ (append_assoc first (flat_map (instance_lines lang) old) (tokens ∷ []) ∙ ap (λ some. first ++ some) (sym more))

instance_lines-push : (lang : LanguageView) (instances : List InstanceView) (name : List ℕ) (variables : List (List ℕ)) → flat_map (instance_lines lang) (instances ++ record { name = name; variables = variables; constraints = [] } ∷ []) ≡ flat_map (instance_lines lang) instances ++ (codes "instance" ∷ name ∷ variables) ∷ []
instance_lines-push lang instances name variables = flat_map-append (instance_lines lang) instances (record { name = name; variables = variables; constraints = [] } ∷ [])

said-instance : (d : ℕ) (lines : List (List (List ℕ))) (file : FileView) (tokens : List (List ℕ)) (next : FileView) → SaidBy d lines file → token_at tokens 0 ≡ codes "instance" → WritesInstance file tokens next → SaidBy d (lines ++ tokens ∷ []) next
said-instance d lines file tokens next said first writes = subst (SaidBy d (lines ++ tokens ∷ [])) (sym writes.next_is) (record {
  first = said.first;
  language = said.language;
  lines_are = line_more file.language said.first lines tokens file.instances (file.instances ++ begun ∷ []) said.lines_are (instance_lines-push file.language file.instances writes.name writes.variables ∙ ap (λ line. flat_map (instance_lines file.language) file.instances ++ line ∷ []) (sym tokens_are));
  is_file = IsFile-with_instance file begun said.is_file is writes.is_new writes.few_instances;
})
  where
    begun : InstanceView
    begun = record { name = writes.name; variables = writes.variables; constraints = [] }

    tokens_are : tokens ≡ codes "instance" ∷ writes.name ∷ writes.variables
    tokens_are = writes.tokens_are ∙ ap (λ t. t ∷ writes.name ∷ writes.variables) first

    is : IsFileInstance file.language begun
    is = IsFileInstance-begun file.language writes.name writes.variables writes.name_is writes.names_are writes.distinct writes.some_variables writes.few_variables

instance_lines-with_constraint : (lang : LanguageView) (inst : InstanceView) (c : ConstraintView) → instance_lines lang (with_constraint inst c) ≡ instance_lines lang inst ++ (codes "constraint" ∷ constraint_tokens lang inst c) ∷ []
instance_lines-with_constraint lang inst c = ap (λ ls. (codes "instance" ∷ inst.name ∷ inst.variables) ∷ ls) (map_push (λ one. codes "constraint" ∷ constraint_tokens lang inst one) inst.constraints c)

instance_lines-with_constraint_at_last : (lang : LanguageView) (c : ConstraintView) (inst : InstanceView) (rest : List InstanceView) → flat_map (instance_lines lang) (with_constraint_at_last c (inst ∷ rest)) ≡ flat_map (instance_lines lang) (inst ∷ rest) ++ (codes "constraint" ∷ constraint_tokens lang (get_or (inst ∷ rest) (length rest) no_instance) c) ∷ []
instance_lines-with_constraint_at_last lang c inst [] =
    append-nil (instance_lines lang (with_constraint inst c)) ∙ (instance_lines-with_constraint lang inst c ∙ ap (λ ls. ls ++ (codes "constraint" ∷ constraint_tokens lang inst c) ∷ []) (sym (append-nil (instance_lines lang inst))))
instance_lines-with_constraint_at_last lang c inst (next ∷ rest) =
    let line = codes "constraint" ∷ constraint_tokens lang (get_or (next ∷ rest) (length rest) no_instance) c in
    ap (λ ls. instance_lines lang inst ++ ls) (instance_lines-with_constraint_at_last lang c next rest) ∙ sym (append_assoc (instance_lines lang inst) (flat_map (instance_lines lang) (next ∷ rest)) (line ∷ []))

instance_lines-at_last : (lang : LanguageView) (c : ConstraintView) (instances : List InstanceView) → 0 < length instances → flat_map (instance_lines lang) (with_constraint_at_last c instances) ≡ flat_map (instance_lines lang) instances ++ (codes "constraint" ∷ constraint_tokens lang (get_or instances (length instances - 1) no_instance) c) ∷ []
instance_lines-at_last lang c [] some = absurd (omega arith)
instance_lines-at_last lang c (inst ∷ rest) some = rw (last_place (length rest)) (instance_lines-with_constraint_at_last lang c inst rest)

said-constraint : (d : ℕ) (lines : List (List (List ℕ))) (file : FileView) (tokens : List (List ℕ)) (next : FileView) → SaidBy d lines file → 0 < length file.instances → token_at tokens 0 ≡ codes "constraint" → WritesConstraint file tokens next → SaidBy d (lines ++ tokens ∷ []) next
said-constraint d lines file tokens next said some first writes = subst (SaidBy d (lines ++ tokens ∷ [])) (sym writes.next_is) (record {
  first = said.first;
  language = said.language;
  lines_are = line_more file.language said.first lines tokens file.instances (with_constraint_at_last c file.instances) said.lines_are (instance_lines-at_last file.language c file.instances some ∙ ap (λ line. flat_map (instance_lines file.language) file.instances ++ line ∷ []) (sym tokens_are));
  is_file = IsFile-with_last_constraint file c said.is_file writes.fits (omega (arith, writes.fits.long, over.is_relation.some_places)) (omega (arith, writes.fits.long, over.is_relation.few_places)) writes.few_constraints;
})
  where
    c : ConstraintView
    c = writes.constraint

    tokens_are : tokens ≡ codes "constraint" ∷ constraint_tokens file.language (last_instance file) c
    tokens_are = writes.tokens_are ∙ ap (λ t. t ∷ constraint_tokens file.language (last_instance file) c) first

    over : IsRelationOver file.language.domain (relation_of file.language c.relation)
    over = IsRelationOver-relation_of file.language c.relation said.is_file.language_is.is_language writes.fits.known

-- an accepted line is one of the lines that say the file with what it adds
said-entry : (d : ℕ) (lines : List (List (List ℕ))) (file : FileView) (tokens : List (List ℕ)) (next : FileView) → SaidBy d lines file → entry_line file tokens ≡ Ok next → SaidBy d (lines ++ tokens ∷ []) next
unfolding entry_line
said-entry d lines file tokens next said e = by_instance (begins_with (codes "instance") tokens) (begins_with-first (codes "instance") tokens) e
  where
    in_instance : Result FileView Word
    in_instance = unless (nat_lt 0 (length file.instances)) BadLine (constraint_line file tokens)

    before_instances : Result FileView Word
    before_instances = unless (eqb (length file.instances) 0) BadLine (in_language file (language_line file.language tokens))

    by_constraint : (t : Bool) → (t ≡ true → token_at tokens 0 ≡ codes "constraint") → cond t in_instance before_instances ≡ Ok next → SaidBy d (lines ++ tokens ∷ []) next
    by_constraint true first h =
        let some = unless-ok (nat_lt 0 (length file.instances)) BadLine (constraint_line file tokens) next h in
        said-constraint d lines file tokens next said (ltb-true 0 (length file.instances) some.passed) (first refl) (constraint_line-writes file tokens next some.went_on)
    by_constraint false first h =
        let none = unless-ok (eqb (length file.instances) 0) BadLine (in_language file (language_line file.language tokens)) next h in
        let language = in_language-ok file (language_line file.language tokens) next none.went_on in
        let same : record { language = language.value; instances = file.instances } ≡ next = let e = language.went_on in cc in
        subst (SaidBy d (lines ++ tokens ∷ [])) same (said-in_language d lines file tokens language.value said (eqb-true (length file.instances) 0 none.passed) language.read)

    by_instance : (t : Bool) → (t ≡ true → token_at tokens 0 ≡ codes "instance") → cond t (instance_line file tokens) (cond (begins_with (codes "constraint") tokens) in_instance before_instances) ≡ Ok next → SaidBy d (lines ++ tokens ∷ []) next
    by_instance true first h = said-instance d lines file tokens next said (first refl) (instance_line-writes file tokens next h)
    by_instance false first h = by_constraint (begins_with (codes "constraint") tokens) (begins_with-first (codes "constraint") tokens) h

-- lines that are read behind others say the file with what they add
Reads-said : (d : ℕ) (earlier lines : List (List (List ℕ))) (file next : FileView) → SaidBy d earlier file → Reads file lines next → SaidBy d (earlier ++ lines) next
Reads-said d earlier [] file next said reads = subst (λ lines. SaidBy d lines next) (sym (append-nil earlier)) (subst (SaidBy d earlier) reads said)
Reads-said d earlier (tokens ∷ lines) file next said reads =
    subst (λ all. SaidBy d all next) (append_assoc earlier (tokens ∷ []) lines) (Reads-said d (earlier ++ tokens ∷ []) lines reads.0 next (said-entry d earlier file tokens reads.0 said reads.1.accepted) reads.2)

-- ---- files

file-spelled : (h k : LineView) (ls : List LineView) (d : ℕ) (found : Parsed) → WritesNumber (codes "polyanna") h.tokens 1 → WritesDomain k.tokens d → ReadsToEnd (begun_file d) ls found → IsSpelled (h ∷ k ∷ ls) found
file-spelled h k ls d found header domain to_end = record {
  version = header.number;
  domain = domain.line.number;
  blocks = said.language.blocks;
  front = h ∷ k ∷ to_end.front;
  last = to_end.last;
  rest = to_end.rest;
  version_is = header.number_is;
  domain_is = domain.line.number_is ∙ ap (λ n. Some n) (sym said.language.domain_is);
  relations_are = said.language.relations_are;
  is_file = said.is_file;
  lines_are = ap (λ lines. h ∷ k ∷ lines) to_end.lines_are;
  front_is = ap₂ (λ line lines. line ∷ lines) header.tokens_are (ap₂ (λ line lines. line ∷ lines) domain.line.tokens_are (said.lines_are ∙ ap (λ first. first ++ flat_map (instance_lines found.file.language) found.file.instances) said.language.lines_are));
  last_is = to_end.last_is;
  place_is = to_end.place_is;
  line_is = to_end.line_is;
}
  where
    said : SaidBy d (map (λ l. l.tokens) to_end.front) found.file
    said = Reads-said d [] (map (λ l. l.tokens) to_end.front) (begun_file d) found.file (said-language d [] (begun_file d).language [] (said-begun d domain.domain_is) refl) to_end.reads

-- a text that the grammar accepts is spelled as the file that it gives
pub parse-spelled : (bytes : List ℕ) (found : Parsed) → parse bytes ≡ Ok found → IsSpelled (significant_lines 1 bytes) found
unfolding parse
parse-spelled bytes found e = by_header (length (lines_of bytes) + 1) (significant_lines 1 bytes) e
  where
    by_domain : (n : ℕ) (h : LineView) (ls : List LineView) → WritesNumber (codes "polyanna") h.tokens 1 → file_from_domain n ls ≡ Ok found → IsSpelled (h ∷ ls) found
    by_domain n h [] header e = cc
    by_domain n h (k ∷ ls) header e =
        let p = after_line-ok k (domain_line k.tokens) (λ d. rest_of_file (begun_file d) n ls) found e in
        file-spelled h k ls p.value found header (domain_line-writes k.tokens p.value p.accepted) (reads-rest_of_file (begun_file p.value) n ls found p.went_on)

    by_header : (n : ℕ) (ls : List LineView) → file_of n ls ≡ Ok found → IsSpelled ls found
    by_header n [] e = cc
    by_header n (h ∷ ls) e =
        let p = after_line-ok h (header_line h.tokens) (λ _. file_from_domain n ls) found e in
        by_domain n h ls (header_line-writes h.tokens p.value p.accepted) p.went_on
