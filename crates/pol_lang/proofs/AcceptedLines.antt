-- What a line writes that the grammar accepts: its tokens, and what was read from them.
use Rattle.std.proofs.Common.{◌≡◌, ℕ, List, [], ◌∷◌, Some, true, eqb, length, ap, ◌∙◌, Ok, codes, leb, ◌&&◌, subst, ◌-◌, ◌<◌, ◌≤◌, ◌+◌, ◌^◌, Contains, ltb, not, All, suc, refl, ap₂, Bool, false, cond, Result, sym, arith, drop, length-drop, ◌≢◌, ◌++◌, AllPairs, append_assoc, append-nil, Err, map, get_or}
use Rattle.std.specs.Bool.{Decides}
use Rattle.std.proofs.lemmas.Bool.{eqb-true, leb-true, and_parts, ltb-true, not-true}
use Rattle.std.proofs.lemmas.Bool.Decides.{not_from_Decides}
use Rattle.std.proofs.lemmas.List.{get_or_default}
use Rattle.std.proofs.lemmas.List.Elements.{All-nil, All-cons}
use Rattle.std.proofs.lemmas.List.Quantifiers.{all_pairs_push}
use Rattle.pol_text.specs.Lines.{number_of, token_at, is_name}
use Rattle.pol_text.specs.Reading.{begins_with, unless, end_line}
use Rattle.pol_text.proofs.ReadingLemmas.{two_tokens, begins_with-first, unless-ok, after_number-ok, one_token, three_tokens, after_values-ok, PassedValue}
use Rattle.pol_text.specs.declared.word.Word.TheVariants.{NoHeader, BadVersion, BadDomain, BadLine, BadNumber, BadName, RepeatedName, BadArity, TooManyRelations, SubsetLimit, ValueOutside, TooManyTuples, TripleLimit, ShortTuple, LongTuple, TooManyInstances, TooManyVariables, UnknownVariable, TooManyConstraints, UnknownRelation}
use Rattle.pol_lang.specs.Grammar.{header_line, domain_line, begun_relation, relation_line, values_of, with_tuple, tuple_line, names_of_tokens, after_names, instance_line, scope_of, with_scope, constraint_line, in_language}
use Rattle.pol_base.specs.Tuples.{IsDomain, IsTuple}
use Rattle.pol_relation.specs.Relations.{LanguageView, names_of, with_relation, last_of, with_row, with_last_row, IsRelation, relation_of}
use Rattle.pol_relation.specs.Weights.{subset_weight_of, weight_of, most_weight}
use Rattle.pol_lang.specs.Spelling.{Write, constraint_tokens}
use Rattle.pol_text.specs.declared.word.Word.{Word}
use Rattle.pol_relation.proofs.RelationLemmas.{AreLong, AreLong-tuples, length-with_row_new, with_row-there, with_last_row-there}
use Rattle.pol_base.specs.Lists.{is_among, place_in}
use Rattle.pol_base.proofs.LookupLemmas.{absent_name, is_among-decides, place_in-found}
use Rattle.pol_relation.proofs.NameLookups.{place_in-known, place_in-name_of}
use Rattle.pol_lang.specs.Files.{FileView, with_instance, last_instance, with_last_constraint, instance_names}
use Rattle.pol_base.proofs.MemberLemmas.{AllPairs-nil}
use Rattle.pol_relation.specs.Instances.{ConstraintView, FitsAt}

-- ---- lines

-- the keyword and a token that writes the number
pub record WritesNumber (keyword : List ℕ) (tokens : List (List ℕ)) (n : ℕ) : Type 0 where
  pub number : List ℕ
  pub number_is : number_of number ≡ Some n
  pub tokens_are : tokens ≡ keyword ∷ number ∷ []

number_line : (keyword : List ℕ) (tokens : List (List ℕ)) (n : ℕ) → begins_with keyword tokens ≡ true → eqb (length tokens) 2 ≡ true → number_of (token_at tokens 1) ≡ Some n → WritesNumber keyword tokens n
number_line keyword tokens n begins long number =
    record {
      number = token_at tokens 1;
      number_is = number;
      tokens_are = two_tokens tokens (eqb-true (length tokens) 2 long) ∙ ap (λ t. t ∷ token_at tokens 1 ∷ []) (begins_with-first keyword tokens begins);
    }

pub header_line-writes : (tokens : List (List ℕ)) (found : ℕ) → header_line tokens ≡ Ok found → WritesNumber (codes "polyanna") tokens 1
unfolding header_line
header_line-writes tokens found e =
    let keyword = unless-ok (begins_with (codes "polyanna") tokens) NoHeader _ found e in
    let long = unless-ok (eqb (length tokens) 2) BadVersion _ found keyword.went_on in
    let number = after_number-ok (number_of (token_at tokens 1)) BadVersion _ found long.went_on in
    let one = unless-ok (eqb number.value 1) BadVersion _ found number.went_on in
    number_line (codes "polyanna") tokens 1 keyword.passed long.passed (number.read ∙ ap (λ n. Some n) (eqb-true number.value 1 one.passed))

pub record WritesDomain (tokens : List (List ℕ)) (d : ℕ) : Type 0 where
  pub line : WritesNumber (codes "domain") tokens d
  pub domain_is : IsDomain d

pub domain_line-writes : (tokens : List (List ℕ)) (d : ℕ) → domain_line tokens ≡ Ok d → WritesDomain tokens d
unfolding domain_line
domain_line-writes tokens d e =
    let keyword = unless-ok (begins_with (codes "domain") tokens) BadLine _ d e in
    let long = unless-ok (eqb (length tokens) 2) BadLine _ d keyword.went_on in
    let number = after_number-ok (number_of (token_at tokens 1)) BadNumber _ d long.went_on in
    let within = unless-ok (leb 1 number.value && leb number.value 5) BadDomain _ d number.went_on in
    let bounds = and_parts (leb 1 number.value) (leb number.value 5) within.passed in
    let same : number.value ≡ d = cc in
    subst (WritesDomain tokens) same (record {
      line = number_line (codes "domain") tokens number.value keyword.passed long.passed number.read;
      domain_is = record { some = leb-true 1 number.value bounds.0; few = leb-true number.value 5 bounds.1 };
    })

pub end_line-writes : (tokens : List (List ℕ)) (found : ℕ) → begins_with (codes "end") tokens ≡ true → end_line tokens ≡ Ok found → tokens ≡ codes "end" ∷ []
end_line-writes tokens found begins e =
    let long = unless-ok (eqb (length tokens) 1) BadLine _ found e in
    one_token tokens (eqb-true (length tokens) 1 long.passed) ∙ ap (λ t. t ∷ []) (begins_with-first (codes "end") tokens begins)

-- a new name and an arity, with which the language goes on
pub record WritesRelation (lang : LanguageView) (tokens : List (List ℕ)) (next : LanguageView) : Type 0 where
  pub name : List ℕ
  pub arity_token : List ℕ
  pub arity : ℕ
  pub is_name : is_name name ≡ true
  pub is_new : Contains (names_of lang) name → ⊥
  pub arity_is : number_of arity_token ≡ Some arity
  pub some_places : 1 ≤ arity
  pub few_places : arity ≤ 6
  pub few_relations : length lang.relations < 32
  pub few_subsets : subset_weight_of lang.domain lang.relations + (2 ^ lang.domain - 1) ^ arity ≤ most_weight
  pub tokens_are : tokens ≡ token_at tokens 0 ∷ name ∷ arity_token ∷ []
  pub next_is : next ≡ with_relation lang name (record { domain = lang.domain; arity = arity; rows = [] })

pub relation_line-writes : (lang : LanguageView) (tokens : List (List ℕ)) (next : LanguageView) → relation_line lang tokens ≡ Ok next → WritesRelation lang tokens next
unfolding relation_line begun_relation
relation_line-writes lang tokens next e =
    let name = token_at tokens 1 in
    let long = unless-ok (eqb (length tokens) 3) BadLine _ next e in
    let named = unless-ok (is_name name) BadName _ next long.went_on in
    let new = unless-ok (not (is_among (names_of lang) name)) RepeatedName _ next named.went_on in
    let number = after_number-ok (number_of (token_at tokens 2)) BadNumber _ next new.went_on in
    let within = unless-ok (leb 1 number.value && leb number.value 6) BadArity _ next number.went_on in
    let few = unless-ok (ltb (length lang.relations) 32) TooManyRelations _ next within.went_on in
    let subsets = unless-ok (leb (subset_weight_of lang.domain lang.relations + (2 ^ lang.domain - 1) ^ number.value) most_weight) SubsetLimit _ next few.went_on in
    let bounds = and_parts (leb 1 number.value) (leb number.value 6) within.passed in
    record {
      name = name;
      arity_token = token_at tokens 2;
      arity = number.value;
      is_name = named.passed;
      is_new = absent_name (names_of lang) name (not-true (is_among (names_of lang) name) new.passed);
      arity_is = number.read;
      some_places = leb-true 1 number.value bounds.0;
      few_places = leb-true number.value 6 bounds.1;
      few_relations = ltb-true (length lang.relations) 32 few.passed;
      few_subsets = leb-true (subset_weight_of lang.domain lang.relations + (2 ^ lang.domain - 1) ^ number.value) most_weight subsets.passed;
      tokens_are = three_tokens tokens (eqb-true (length tokens) 3 long.passed);
      next_is = cc;
    }

-- the tokens write values of the domain
pub record WriteValues (d : ℕ) (tokens : List (List ℕ)) (values : List ℕ) : Type 0 where
  pub write : Write tokens values
  pub long : length values ≡ length tokens
  pub below : All (λ v. v < d) values

pub values_of-write : (d : ℕ) (tokens : List (List ℕ)) (values : List ℕ) → values_of d tokens ≡ Ok values → WriteValues d tokens values
values_of-write d [] values e =
    let same : [] ≡ values = cc in
    subst (WriteValues d []) same (record { write = refl; long = refl; below = All-nil (λ v. v < d) })
values_of-write d (t ∷ ts) values e =
    let number = after_number-ok (number_of t) BadNumber _ values e in
    let inside = unless-ok (ltb number.value d) ValueOutside _ values number.went_on in
    let later = after_values-ok (values_of d ts) _ values inside.went_on in
    let rest = values_of-write d ts later.value later.read in
    let same : number.value ∷ later.value ≡ values = cc in
    subst (WriteValues d (t ∷ ts)) same (record {
      write = ap₂ (λ v vs. v ∷ vs) number.read rest.write;
      long = ap suc rest.long;
      below = All-cons (λ v. v < d) number.value later.value (ltb-true number.value d inside.passed) rest.below;
    })

-- the tuple is a row of the last relation, within the limits, with which the language goes on
pub record WritesRow (lang : LanguageView) (t : List ℕ) (next : LanguageView) : Type 0 where
  pub few : length (with_row t (last_of lang).rows) ≤ 128
  pub few_triples : weight_of 3 (with_last_row lang t).relations ≤ most_weight
  pub next_is : next ≡ with_last_row lang t

pub with_tuple-writes : (lang : LanguageView) (t : List ℕ) (next : LanguageView) → IsRelation (last_of lang) → length (last_of lang).rows ≤ 128 → weight_of 3 lang.relations ≤ most_weight → length t ≡ (last_of lang).arity → with_tuple lang t ≡ Ok next → WritesRow lang t next
unfolding with_tuple
with_tuple-writes lang t next is few triples long e = by_test (is_among (last_of lang).rows t) (is_among-decides (last_of lang).rows t) e
  where
    rows-long : AreLong (last_of lang).arity (last_of lang).rows
    rows-long = AreLong-tuples (last_of lang).domain (last_of lang).arity (last_of lang).rows is.tuples

    tested : Result LanguageView Word
    tested = unless (leb (weight_of 3 (with_last_row lang t).relations) most_weight) TripleLimit (Ok (with_last_row lang t))

    by_test : (there : Bool) → Decides there (Contains (last_of lang).rows t) → cond there (Ok lang) (unless (ltb (length (last_of lang).rows) 128) TooManyTuples tested) ≡ Ok next → WritesRow lang t next
    by_test true decides h =
        let same = with_row-there (last_of lang).arity t (last_of lang).rows long rows-long is.ascending (decides.0 refl) in
        let there = with_last_row-there lang t same in
        let goes_on : lang ≡ next = cc in
        record { few = rw same few; few_triples = subst (λ l. weight_of 3 l.relations ≤ most_weight) (sym there) triples; next_is = sym goes_on ∙ sym there }
    by_test false decides h =
        let room = unless-ok (ltb (length (last_of lang).rows) 128) TooManyTuples tested next h in
        let light = unless-ok (leb (weight_of 3 (with_last_row lang t).relations) most_weight) TripleLimit (Ok (with_last_row lang t)) next room.went_on in
        let below = ltb-true (length (last_of lang).rows) 128 room.passed in
        let longer = length-with_row_new (last_of lang).arity t (last_of lang).rows long rows-long (not_from_Decides false decides refl) in
        record { few = omega arith; few_triples = leb-true (weight_of 3 (with_last_row lang t).relations) most_weight light.passed; next_is = cc }

-- a tuple of the last relation, each value by its token
pub record WritesTuple (lang : LanguageView) (tokens : List (List ℕ)) (next : LanguageView) : Type 0 where
  pub values : List ℕ
  pub write : Write (drop 1 tokens) values
  pub tuple : IsTuple lang.domain (last_of lang).arity values
  pub row : WritesRow lang values next

pub tuple_line-writes : (lang : LanguageView) (tokens : List (List ℕ)) (next : LanguageView) → IsRelation (last_of lang) → length (last_of lang).rows ≤ 128 → weight_of 3 lang.relations ≤ most_weight → tuple_line lang tokens ≡ Ok next → WritesTuple lang tokens next
unfolding tuple_line
tuple_line-writes lang tokens next is few triples e =
    let enough = unless-ok (leb (last_of lang).arity (length tokens - 1)) ShortTuple _ next e in
    let no_more = unless-ok (leb (length tokens - 1) (last_of lang).arity) LongTuple _ next enough.went_on in
    let values = after_values-ok (values_of lang.domain (drop 1 tokens)) (with_tuple lang) next no_more.went_on in
    let written = values_of-write lang.domain (drop 1 tokens) values.value values.read in
    let low = leb-true (last_of lang).arity (length tokens - 1) enough.passed in
    let high = leb-true (length tokens - 1) (last_of lang).arity no_more.passed in
    let long : length values.value ≡ (last_of lang).arity = omega (arith, written.long, length-drop 1 tokens) in
    record {
      values = values.value;
      write = written.write;
      tuple = record { long = long; below = written.below };
      row = with_tuple-writes lang values.value next is few triples long values.went_on;
    }

-- the names are those before and the tokens, all distinct
pub record AreNames (before tokens names : List (List ℕ)) : Type 0 where
  pub same : names ≡ before ++ tokens
  pub named : All (λ x. is_name x ≡ true) tokens
  pub distinct : AllPairs (λ x y. x ≢ y) (before ++ tokens)

pub names_of_tokens-names : (before tokens names : List (List ℕ)) → AllPairs (λ x y. x ≢ y) before → names_of_tokens before tokens ≡ Ok names → AreNames before tokens names
names_of_tokens-names before [] names distinct e =
    let none = append-nil before in
    let goes_on : names ≡ before = cc in
    record { same = goes_on ∙ sym none; named = All-nil (λ x. is_name x ≡ true); distinct = subst (λ xs. AllPairs (λ x y. x ≢ y) xs) (sym none) distinct }
names_of_tokens-names before (t ∷ ts) names distinct e =
    let named = unless-ok (is_name t) BadName _ names e in
    let new = unless-ok (not (is_among before t)) RepeatedName _ names named.went_on in
    let absent = not_from_Decides (is_among before t) (is_among-decides before t) (not-true (is_among before t) new.passed) in
    let more = all_pairs_push (λ x y. x ≢ y) before t distinct (λ k d inside same. absent (k, inside, get_or_default before k t d inside ∙ same)) in
    let rest = names_of_tokens-names (before ++ t ∷ []) ts names more new.went_on in
    let joined = append_assoc before (t ∷ []) ts in
    record {
      same = rest.same ∙ joined;
      named = All-cons (λ x. is_name x ≡ true) t ts named.passed rest.named;
      distinct = subst (λ xs. AllPairs (λ x y. x ≢ y) xs) joined rest.distinct;
    }

pub after_names-ok : {A : Type 0} (names : Result (List (List ℕ)) Word) (next : List (List ℕ) → Result A Word) (found : A) → after_names names next ≡ Ok found → PassedValue next found (λ ns. names ≡ Ok ns)
after_names-ok (Err word) next found e = cc
after_names-ok (Ok ns) next found e = record { value = ns; read = refl; went_on = e }

-- a new name and the names of the variables, with which the file goes on
pub record WritesInstance (file : FileView) (tokens : List (List ℕ)) (next : FileView) : Type 0 where
  pub name : List ℕ
  pub variables : List (List ℕ)
  pub name_is : is_name name ≡ true
  pub is_new : Contains (instance_names file) name → ⊥
  pub few_instances : length file.instances < 8
  pub names_are : All (λ x. is_name x ≡ true) variables
  pub distinct : AllPairs (λ x y. x ≢ y) variables
  pub some_variables : 1 ≤ length variables
  pub few_variables : length variables ≤ 40
  pub tokens_are : tokens ≡ token_at tokens 0 ∷ name ∷ variables
  pub next_is : next ≡ with_instance file (record { name = name; variables = variables; constraints = [] })

tokens_behind : (tokens : List (List ℕ)) → 2 ≤ length tokens → tokens ≡ token_at tokens 0 ∷ token_at tokens 1 ∷ drop 2 tokens
tokens_behind [] enough = absurd (omega arith)
tokens_behind (a ∷ []) enough = absurd (omega arith)
tokens_behind (a ∷ b ∷ rest) enough = refl

pub instance_line-writes : (file : FileView) (tokens : List (List ℕ)) (next : FileView) → instance_line file tokens ≡ Ok next → WritesInstance file tokens next
unfolding instance_line
instance_line-writes file tokens next e =
    let name = token_at tokens 1 in
    let enough = unless-ok (leb 3 (length tokens)) BadLine _ next e in
    let named = unless-ok (is_name name) BadName _ next enough.went_on in
    let new = unless-ok (not (is_among (instance_names file) name)) RepeatedName _ next named.went_on in
    let few = unless-ok (ltb (length file.instances) 8) TooManyInstances _ next new.went_on in
    let room = unless-ok (leb (length tokens - 2) 40) TooManyVariables _ next few.went_on in
    let names = after_names-ok (names_of_tokens [] (drop 2 tokens)) _ next room.went_on in
    let are = names_of_tokens-names [] (drop 2 tokens) names.value (AllPairs-nil (λ x y. x ≢ y)) names.read in
    let low = leb-true 3 (length tokens) enough.passed in
    let high = leb-true (length tokens - 2) 40 room.passed in
    let goes_on : next ≡ with_instance file (record { name = name; variables = names.value; constraints = [] }) = cc in
    record {
      name = name;
      variables = drop 2 tokens;
      name_is = named.passed;
      is_new = not_from_Decides (is_among (instance_names file) name) (is_among-decides (instance_names file) name) (not-true (is_among (instance_names file) name) new.passed);
      few_instances = ltb-true (length file.instances) 8 few.passed;
      names_are = are.named;
      distinct = are.distinct;
      some_variables = omega (arith, low, length-drop 2 tokens);
      few_variables = omega (arith, high, length-drop 2 tokens);
      tokens_are = tokens_behind tokens (omega arith);
      next_is = goes_on ∙ ap (λ variables. with_instance file (record { name = name; variables = variables; constraints = [] })) are.same;
    }

-- the tokens name the variables of the scope
pub record NameScope (variables tokens : List (List ℕ)) (scope : List ℕ) : Type 0 where
  pub names : map (λ x. get_or variables x []) scope ≡ tokens
  pub long : length scope ≡ length tokens
  pub below : All (λ x. x < length variables) scope

pub scope_of-names : (variables tokens : List (List ℕ)) (scope : List ℕ) → scope_of variables tokens ≡ Ok scope → NameScope variables tokens scope
scope_of-names variables [] scope e =
    let same : [] ≡ scope = cc in
    subst (NameScope variables []) same (record { names = refl; long = refl; below = All-nil (λ x. x < length variables) })
scope_of-names variables (t ∷ ts) scope e =
    let first = after_number-ok (place_in variables t) UnknownVariable _ scope e in
    let later = after_values-ok (scope_of variables ts) _ scope first.went_on in
    let place = place_in-found variables t first.value first.read in
    let rest = scope_of-names variables ts later.value later.read in
    let same : first.value ∷ later.value ≡ scope = cc in
    subst (NameScope variables (t ∷ ts)) same (record {
      names = ap₂ (λ x xs. x ∷ xs) (get_or_default variables first.value [] t place.inside ∙ place.found) rest.names;
      long = ap suc rest.long;
      below = All-cons (λ x. x < length variables) first.value later.value place.inside rest.below;
    })

-- a constraint of the last instance, with which the file goes on
pub record WritesConstraint (file : FileView) (tokens : List (List ℕ)) (next : FileView) : Type 0 where
  pub constraint : ConstraintView
  pub fits : FitsAt file.language (length (last_instance file).variables) constraint
  pub few_constraints : length (last_instance file).constraints < 256
  pub tokens_are : tokens ≡ token_at tokens 0 ∷ constraint_tokens file.language (last_instance file) constraint
  pub next_is : next ≡ with_last_constraint file constraint

pub constraint_line-writes : (file : FileView) (tokens : List (List ℕ)) (next : FileView) → constraint_line file tokens ≡ Ok next → WritesConstraint file tokens next
unfolding constraint_line with_scope
constraint_line-writes file tokens next e =
    let lang = file.language in
    let variables = (last_instance file).variables in
    let enough = unless-ok (leb 2 (length tokens)) BadLine _ next e in
    let relation = after_number-ok (place_in (names_of lang) (token_at tokens 1)) UnknownRelation _ next enough.went_on in
    let fitting = unless-ok (eqb (length tokens - 2) (relation_of lang relation.value).arity) BadArity _ next relation.went_on in
    let scope = after_values-ok (scope_of variables (drop 2 tokens)) (with_scope file relation.value) next fitting.went_on in
    let room = unless-ok (ltb (length (last_instance file).constraints) 256) TooManyConstraints _ next scope.went_on in
    let names = scope_of-names variables (drop 2 tokens) scope.value scope.read in
    let arity = eqb-true (length tokens - 2) (relation_of lang relation.value).arity fitting.passed in
    record {
      constraint = record { relation = relation.value; scope = scope.value };
      fits = record { known = place_in-known lang (token_at tokens 1) relation.value relation.read; long = omega (arith, names.long, length-drop 2 tokens); below = names.below };
      few_constraints = ltb-true (length (last_instance file).constraints) 256 room.passed;
      tokens_are = tokens_behind tokens (leb-true 2 (length tokens) enough.passed) ∙ ap₂ (λ name rest. token_at tokens 0 ∷ name ∷ rest) (sym (place_in-name_of lang (token_at tokens 1) relation.value relation.read)) (sym names.names);
      next_is = cc;
    }

-- the line of a language, with which the file goes on
pub in_language-ok : (file : FileView) (read : Result LanguageView Word) (next : FileView) → in_language file read ≡ Ok next → PassedValue (λ lang. Ok (record { language = lang; instances = file.instances })) next (λ lang. read ≡ Ok lang)
in_language-ok file (Err word) next e = cc
in_language-ok file (Ok lang) next e = record { value = lang; read = refl; went_on = e }
