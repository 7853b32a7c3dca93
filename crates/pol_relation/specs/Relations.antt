-- Relations and constraint languages.
use Rattle.std.specs.Prelude.{ℕ, List, [], ◌≤◌, All, AllPairs, ◌≡◌, ◌≢◌}
use Rattle.std.specs.Prelude.{slice_index_or, ◌-◌, length, map, ◌∷◌, if◌then◌else◌}
use Rattle.std.specs.Prelude.{◌++◌, zero, suc, take, drop, ◌↔◌, Contains}
use Rattle.std.specs.Cmp.Lexicographic.{slice_cmp}
use Rattle.std.specs.Ordering.{nat_cmp, is_lt, is_eq}
use Rattle.pol_base.specs.Tuples.{IsDomain, IsTuple, IsBefore}

-- a relation: its rows are tuples of its arity
pub record RelationView : Type 0 where
  pub domain : ℕ
  pub arity : ℕ
  pub rows : List (List ℕ)

-- the rows are distinct and ascend, so that a set of tuples is one relation
pub record IsRelation (r : RelationView) : Type 0 where
  pub domain_is : IsDomain r.domain
  pub some_places : 1 ≤ r.arity
  pub few_places : r.arity ≤ 6
  pub tuples : All (IsTuple r.domain r.arity) r.rows
  pub ascending : AllPairs IsBefore r.rows

-- a relation with its name
pub record NamedRelation : Type 0 where
  pub name : List ℕ
  pub relation : RelationView

-- a language: relations over one domain, each with its name
pub record LanguageView : Type 0 where
  pub domain : ℕ
  pub relations : List NamedRelation

-- a relation of the language is one over its domain
pub record IsRelationOver (d : ℕ) (r : RelationView) : Type 0 where
  pub is_relation : IsRelation r
  pub same_domain : r.domain ≡ d

-- no two relations have one name
pub record IsLanguage (lang : LanguageView) : Type 0 where
  pub domain_is : IsDomain lang.domain
  pub relations_are : All (λ e. IsRelationOver lang.domain e.relation) lang.relations
  pub distinct : AllPairs (λ e f. e.name ≢ f.name) lang.relations

-- what stands at a number that the language does not have
abbrev pub no_relation : RelationView
no_relation = record { domain = 0; arity = 0; rows = [] }

-- and without a name
abbrev pub no_named : NamedRelation
no_named = record { name = []; relation = no_relation }

-- the relation with the number
abbrev pub relation_of : LanguageView → ℕ → RelationView
relation_of lang r = (slice_index_or lang.relations r no_named).relation

-- the rows of the relation with the number
abbrev pub rows_of : LanguageView → ℕ → List (List ℕ)
rows_of lang r = (relation_of lang r).rows

-- the name of the relation with the number
abbrev pub name_of : LanguageView → ℕ → List ℕ
name_of lang r = (slice_index_or lang.relations r no_named).name

-- the relation that was added last
abbrev pub last_of : LanguageView → RelationView
last_of lang = relation_of lang (length lang.relations - 1)

-- the names of the relations, in their order
abbrev pub names_of : LanguageView → List (List ℕ)
names_of lang = map (λ e. e.name) lang.relations

-- ascending rows, and the tuple in its place: the same rows where it is one of them
abbrev pub with_row : List ℕ → List (List ℕ) → List (List ℕ)
with_row t [] = t ∷ []
with_row t (row ∷ rows) =
    if is_lt (slice_cmp nat_cmp row t)
    then row ∷ with_row t rows
    else (if is_eq (slice_cmp nat_cmp row t) then row ∷ rows else t ∷ row ∷ rows)

-- the language with a further relation, the last
abbrev pub with_relation : LanguageView → List ℕ → RelationView → LanguageView
with_relation lang name r = record {
  domain = lang.domain;
  relations = lang.relations ++ (record { name = name; relation = r }) ∷ [];
}

-- the relation with the tuple as a row
abbrev pub with_row_in : RelationView → List ℕ → RelationView
with_row_in r t = record { domain = r.domain; arity = r.arity; rows = with_row t r.rows }

-- the relations, the last of them with the tuple as a row
abbrev pub with_row_at_last : List ℕ → List NamedRelation → List NamedRelation
with_row_at_last t [] = []
with_row_at_last t (e ∷ []) = record { name = e.name; relation = with_row_in e.relation t } ∷ []
with_row_at_last t (e ∷ f ∷ rest) = e ∷ with_row_at_last t (f ∷ rest)

-- the language whose last relation has the tuple too
abbrev pub with_last_row : LanguageView → List ℕ → LanguageView
with_last_row lang t = record { domain = lang.domain; relations = with_row_at_last t lang.relations }

-- the tuples of n values that stand one behind another, so many of them
abbrev pub tuples_in : ℕ → ℕ → List ℕ → List (List ℕ)
tuples_in n zero values = []
tuples_in n (suc count) values = take n values ∷ tuples_in n count (drop n values)

-- the lists hold the same tuples
abbrev pub SameMembers : List (List ℕ) → List (List ℕ) → Type 0
SameMembers rows tuples = (t : List ℕ) → Contains rows t ↔ Contains tuples t
