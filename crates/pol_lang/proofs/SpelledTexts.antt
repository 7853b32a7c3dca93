-- Each text that is spelled as a file is accepted as the file, up to the line behind which it ends.
use Rattle.std.proofs.Common.{◌≡◌, ℕ, List, [], ◌∷◌, ◌++◌, ◌+◌, ◌-◌, ◌^◌, ◌<◌, ◌≤◌, ◌≢◌, All, AllPairs, Any, Contains, Ok, map, flat_map, length, length-append, codes, get_or, true, refl, sym, ap, ap₂, ◌∙◌, subst, append_assoc, arith}
use Rattle.std.specs.List.{AllZip}
use Rattle.std.proofs.lemmas.List.{append-nil, get_or_at}
use Rattle.std.proofs.lemmas.List.Elements.{All-head}
use Rattle.pol_text.specs.Lines.{LineView, lines_of, significant_lines, is_name}
use Rattle.pol_relation.specs.Relations.{NamedRelation, IsRelationOver, LanguageView, with_row}
use Rattle.pol_relation.specs.Weights.{weight_of, subset_weight_of}
use Rattle.pol_relation.specs.Instances.{InstanceView, ConstraintView, FitsAt}
use Rattle.pol_lang.specs.Files.{FileView, Parsed, IsFile, IsFileInstance, IsFileLanguage}
use Rattle.pol_lang.specs.Grammar.{begun_file, file_of, parse}
use Rattle.pol_lang.specs.Spelling.{Write, Block, block_lines, Spells, constraint_tokens, instance_lines, IsSpelled}
use Rattle.pol_lang.proofs.LineSteps.{Reads, Reads-append, rest_of_file-reads}
use Rattle.pol_lang.proofs.RowsToCome.{AreToCome, AreToCome-all, AreToCome-done, AreToCome-more}
use Rattle.pol_lang.proofs.SpelledLines.{distinct-new, header_line-accepts, domain_line-accepts, file_of_relations, with_rows, FitsBehind, relation_step, tuple_step, file_with, with_constraints, instance_step, constraint_step}

-- ---- relations

tuples_read : (d : ℕ) (done : List NamedRelation) (named : NamedRelation) (rows : List (List ℕ)) (lines : List (List (List ℕ))) → FitsBehind d done named → AreToCome named.relation rows lines → Reads (file_of_relations d (done ++ with_rows named rows ∷ [])) (map (λ values. codes "tuple" ∷ values) lines) (file_of_relations d (done ++ named ∷ []))
tuples_read d done named rows [] fits come = ap (λ all. file_of_relations d (done ++ with_rows named all ∷ [])) (AreToCome-done named.relation rows come)
tuples_read d done named rows (tokens ∷ lines) fits come =
    let any = All-head (λ line. Any (Write line) named.relation.rows) tokens lines come.rows_only in
    let t = any.1 in
    let there : Contains named.relation.rows t = (any.0, any.2, any.3) in
    let rest = tuples_read d done named (with_row t rows) lines fits (AreToCome-more named.relation rows tokens lines t there any.4 come) in
    (file_of_relations d (done ++ with_rows named (with_row t rows) ∷ []), tuple_step d done named rows tokens t fits come.some there any.4, rest)

relation_read : (d : ℕ) (done : List NamedRelation) (block : Block) (named : NamedRelation) → FitsBehind d done named → Spells block named → Reads (file_of_relations d done) (block_lines block) (file_of_relations d (done ++ named ∷ []))
relation_read d done block named fits spells =
    let come = AreToCome-all named.relation block.tuples fits.over.is_relation spells.rows_only spells.each_row in
    rw spells.same_name (file_of_relations d (done ++ with_rows named [] ∷ []), relation_step d done named block.arity fits spells.arity_is, tuples_read d done named [] block.tuples fits come)

member : {X : Type 0} (P : X → Type 0) (all done rest : List X) (x : X) → all ≡ done ++ x ∷ rest → All P all → P x
member P all done rest x same holds =
    let inside : length done < length all = omega (arith, ap length same, length-append done (x ∷ rest)) in
    subst P (ap (λ xs. get_or xs (length done) x) same ∙ get_or_at done x rest x (length done) refl) (holds (length done) x inside)

weight_of-append : (k : ℕ) (done rest : List NamedRelation) → weight_of k (done ++ rest) ≡ weight_of k done + weight_of k rest
weight_of-append k [] rest = omega arith
weight_of-append k (e ∷ done) rest = let later = weight_of-append k done rest in omega (arith, later)

subset_weight_of-append : (d : ℕ) (done rest : List NamedRelation) → subset_weight_of d (done ++ rest) ≡ subset_weight_of d done + subset_weight_of d rest
subset_weight_of-append d [] rest = omega arith
subset_weight_of-append d (e ∷ done) rest = let later = subset_weight_of-append d done rest in omega (arith, later)

fits_behind : (lang : LanguageView) (done rest : List NamedRelation) (named : NamedRelation) → IsFileLanguage lang → lang.relations ≡ done ++ named ∷ rest → FitsBehind lang.domain done named
fits_behind lang done rest named is same =
    let weight : weight_of 3 lang.relations ≡ weight_of 3 done + (length named.relation.rows ^ 3 + weight_of 3 rest) = ap (weight_of 3) same ∙ weight_of-append 3 done (named ∷ rest) in
    let subsets : subset_weight_of lang.domain lang.relations ≡ subset_weight_of lang.domain done + ((2 ^ lang.domain - 1) ^ named.relation.arity + subset_weight_of lang.domain rest) = ap (subset_weight_of lang.domain) same ∙ subset_weight_of-append lang.domain done (named ∷ rest) in
    record {
      is_named = member (λ e. is_name e.name ≡ true) lang.relations done rest named same is.names_are;
      is_new = distinct-new (λ (e : NamedRelation). e.name) done rest named (subst (λ relations. AllPairs (λ e f. e.name ≢ f.name) relations) same is.is_language.distinct);
      over = member (λ e. IsRelationOver lang.domain e.relation) lang.relations done rest named same is.is_language.relations_are;
      room = omega (arith, is.few_relations, ap length same, length-append done (named ∷ rest));
      few_tuples = member (λ e. length e.relation.rows ≤ 128) lang.relations done rest named same is.few_tuples;
      light = omega (arith, is.few_triples);
      few_subsets = omega (arith, is.few_subsets);
    }

-- the lines of the relations behind others
relations_read : (lang : LanguageView) (done : List NamedRelation) (blocks : List Block) (rest : List NamedRelation) → IsFileLanguage lang → lang.relations ≡ done ++ rest → AllZip Spells blocks rest → Reads (file_of_relations lang.domain done) (flat_map block_lines blocks) (file_of_relations lang.domain lang.relations)
relations_read lang done [] [] is same spell = ap (file_of_relations lang.domain) (sym (same ∙ append-nil done))
relations_read lang done [] (named ∷ rest) is same spell = absurd spell
relations_read lang done (block ∷ blocks) [] is same spell = absurd spell
relations_read lang done (block ∷ blocks) (named ∷ rest) is same spell =
    let first = relation_read lang.domain done block named (fits_behind lang done rest named is same) spell.0 in
    let later = relations_read lang (done ++ named ∷ []) blocks rest is (same ∙ sym (append_assoc done (named ∷ []) rest)) spell.1 in
    Reads-append (file_of_relations lang.domain done) (file_of_relations lang.domain (done ++ named ∷ [])) (file_of_relations lang.domain lang.relations) (block_lines block) (flat_map block_lines blocks) first later

-- ---- instances

constraints_read : (lang : LanguageView) (done : List InstanceView) (inst : InstanceView) (front rest : List ConstraintView) → AllPairs (λ e f. e.name ≢ f.name) lang.relations → IsFileInstance lang inst → inst.constraints ≡ front ++ rest → Reads (file_with lang (done ++ with_constraints inst front ∷ [])) (map (λ c. codes "constraint" ∷ constraint_tokens lang inst c) rest) (file_with lang (done ++ inst ∷ []))
constraints_read lang done inst front [] names is same = ap (λ constraints. file_with lang (done ++ with_constraints inst constraints ∷ [])) (sym (same ∙ append-nil front))
constraints_read lang done inst front (c ∷ rest) names is same =
    let fits = member (FitsAt lang (length inst.variables)) inst.constraints front rest c same is.fits in
    let step = constraint_step lang done inst front c names is.is_instance.distinct fits (omega (arith, is.few_constraints, ap length same, length-append front (c ∷ rest))) in
    let later = constraints_read lang done inst (front ++ c ∷ []) rest names is (same ∙ sym (append_assoc front (c ∷ []) rest)) in
    (file_with lang (done ++ with_constraints inst (front ++ c ∷ []) ∷ []), step, later)

-- the lines of the instances behind others
instances_read : (file : FileView) (done rest : List InstanceView) → IsFile file → file.instances ≡ done ++ rest → Reads (file_with file.language done) (flat_map (instance_lines file.language) rest) file
instances_read file done [] is same = ap (file_with file.language) (sym (same ∙ append-nil done))
instances_read file done (inst ∷ rest) is same =
    let lang = file.language in
    let fits = member (IsFileInstance lang) file.instances done rest inst same is.instances_are in
    let new = distinct-new (λ (i : InstanceView). i.name) done rest inst (subst (λ instances. AllPairs (λ i j. i.name ≢ j.name) instances) same is.distinct) in
    let step = instance_step lang done inst fits new (omega (arith, is.few_instances, ap length same, length-append done (inst ∷ rest))) in
    let first : Reads (file_with lang done) (instance_lines lang inst) (file_with lang (done ++ inst ∷ [])) = (file_with lang (done ++ with_constraints inst [] ∷ []), step, constraints_read lang done inst [] inst.constraints is.language_is.is_language.distinct fits refl) in
    let later = instances_read file (done ++ inst ∷ []) rest is (same ∙ sym (append_assoc done (inst ∷ []) rest)) in
    Reads-append (file_with lang done) (file_with lang (done ++ inst ∷ [])) file (instance_lines lang inst) (flat_map (instance_lines lang) rest) first later

-- ---- files

-- a text that is spelled as a file is read as the file
pub spelled-parses : (bytes : List ℕ) (found : Parsed) → IsSpelled (significant_lines 1 bytes) found → parse bytes ≡ Ok found
unfolding parse
spelled-parses bytes found said = ap (file_of (length (lines_of bytes) + 1)) said.lines_are ∙ by (length (lines_of bytes) + 1) said.front said.front_is
  where
    lang : LanguageView
    lang = found.file.language

    entries : List (List (List ℕ))
    entries = flat_map block_lines said.blocks ++ flat_map (instance_lines lang) found.file.instances

    entries_read : Reads (begun_file lang.domain) entries found.file
    entries_read = Reads-append (file_of_relations lang.domain []) (file_with lang []) found.file (flat_map block_lines said.blocks) (flat_map (instance_lines lang) found.file.instances)
        (relations_read lang [] said.blocks lang.relations said.is_file.language_is refl said.relations_are) (instances_read found.file [] found.file.instances said.is_file refl)

    by : (n : ℕ) (front : List LineView) → map (λ l. l.tokens) front ≡ (codes "polyanna" ∷ said.version ∷ []) ∷ (codes "domain" ∷ said.domain ∷ []) ∷ entries → file_of n (front ++ said.last ∷ said.rest) ≡ Ok found
    by n [] same = absurd (cc)
    by n (h ∷ []) same = absurd (cc)
    by n (h ∷ k ∷ front) same =
        let first : h.tokens ≡ codes "polyanna" ∷ said.version ∷ [] = cc in
        let second : k.tokens ≡ codes "domain" ∷ said.domain ∷ [] = cc in
        let others : map (λ (l : LineView). l.tokens) front ≡ entries = cc in
        let bounds = said.is_file.language_is.is_language.domain_is in
        let read = rest_of_file-reads (begun_file lang.domain) found.file n front said.last said.rest (subst (λ lines. Reads (begun_file lang.domain) lines found.file) (sym others) entries_read) said.last_is in
        rw (first, header_line-accepts said.version said.version_is, second, domain_line-accepts said.domain lang.domain said.domain_is bounds.some bounds.few)
        (read ∙ ap₂ (λ place line. Ok (record { file = found.file; place = place; line = line })) (sym said.place_is) (sym said.line_is))
