-- The kinds of languages: their relations, and what the instances over them have in common.
use Rattle.std.specs.Prelude.{ℕ, Bool, not, ◌==◌, ◌^◌, ◌%◌, ◌++◌, List, [], ◌∷◌, map}
use Rattle.std.specs.Prelude.{slice_index, unwrap_or, codes}
use Rattle.std.specs.Prelude.{if◌then◌else◌, true, ◌&&◌}
use Rattle.std.specs.List.{range_with_len, sum, filter, list_all}
use Rattle.std.specs.Cmp.Lexicographic.{slice_cmp}
use Rattle.std.specs.Ordering.{nat_cmp, is_lt}
use Rattle.std.specs.Fmt.{decimal}
use Rattle.pol_base.specs.Tuples.{digits_of}
use Rattle.pol_base.specs.Lists.{is_same, place_in}
use Rattle.pol_relation.specs.Relations.{NamedRelation, LanguageView, names_of}
use Rattle.pol_relation.specs.Instances.{ConstraintView}
use Rattle.pol_gen.specs.declared.kinds.Kind.{Kind}
use Rattle.pol_gen.specs.declared.kinds.Kind.TheVariants.{Horn, TwoSat, Sums, Parity, Colours}

-- the kind of the files that the number makes
abbrev pub kind_of : ℕ → Kind
kind_of number =
    if number % 5 == 0 then Horn else
    (if number % 5 == 1 then TwoSat else
    (if number % 5 == 2 then Sums else
    (if number % 5 == 3 then Parity else Colours)))

-- ---- languages

-- the relation over d values with these rows
abbrev pub relation_with : List ℕ → ℕ → ℕ → List (List ℕ) → NamedRelation
relation_with name d arity rows =
    record { name = name; relation = record { domain = d; arity = arity; rows = rows } }

-- the tuples of values below d that pass the test, in ascending order
abbrev pub tuples_where : ℕ → ℕ → (List ℕ → Bool) → List (List ℕ)
tuples_where d arity test = filter test (map (λ cell. digits_of d arity cell) (range_with_len 0 (d ^ arity)))

-- the relation over d values of the tuples that pass the test
abbrev pub relation_where : List ℕ → ℕ → ℕ → (List ℕ → Bool) → NamedRelation
relation_where name d arity test = relation_with name d arity (tuples_where d arity test)

-- each of the tuples comes before all those behind it
abbrev pub ascend : List (List ℕ) → Bool
ascend [] = true
ascend (t ∷ rest) = list_all (λ u. is_lt (slice_cmp nat_cmp t u)) rest && ascend rest

-- all triples but 1 1 0, the value 0, and the value 1
abbrev pub horn_language : LanguageView
horn_language = record {
  domain = 2;
  relations =
      relation_where (codes "h") 2 3 (λ t. not (is_same t (1 ∷ 1 ∷ 0 ∷ [])))
      ∷ relation_with (codes "zero") 2 1 ((0 ∷ []) ∷ [])
      ∷ relation_with (codes "one") 2 1 ((1 ∷ []) ∷ [])
      ∷ [];
}

-- pairs with a value 1, pairs with a value 0, and pairs of unequal values
abbrev pub two_sat_language : LanguageView
two_sat_language = record {
  domain = 2;
  relations =
      relation_with (codes "or") 2 2 ((0 ∷ 1 ∷ []) ∷ (1 ∷ 0 ∷ []) ∷ (1 ∷ 1 ∷ []) ∷ [])
      ∷ relation_with (codes "nand") 2 2 ((0 ∷ 0 ∷ []) ∷ (0 ∷ 1 ∷ []) ∷ (1 ∷ 0 ∷ []) ∷ [])
      ∷ relation_with (codes "neq") 2 2 ((0 ∷ 1 ∷ []) ∷ (1 ∷ 0 ∷ []) ∷ [])
      ∷ [];
}

-- triples whose sum is 0, and triples whose sum is 1, modulo 3
abbrev pub sums_language : LanguageView
sums_language = record {
  domain = 3;
  relations =
      relation_where (codes "s0") 3 3 (λ t. sum t % 3 == 0)
      ∷ relation_where (codes "s1") 3 3 (λ t. sum t % 3 == 1)
      ∷ [];
}

-- triples of 0 and 1 of even sum, pairs of 0 and 1 or of two values 2, and the value 2
abbrev pub parity_language : LanguageView
parity_language = record {
  domain = 3;
  relations =
      relation_with (codes "parity") 3 3
      ((0 ∷ 0 ∷ 0 ∷ []) ∷ (0 ∷ 1 ∷ 1 ∷ []) ∷ (1 ∷ 0 ∷ 1 ∷ []) ∷ (1 ∷ 1 ∷ 0 ∷ []) ∷ [])
      ∷ relation_with (codes "swap") 3 2 ((0 ∷ 1 ∷ []) ∷ (1 ∷ 0 ∷ []) ∷ (2 ∷ 2 ∷ []) ∷ [])
      ∷ relation_with (codes "two") 3 1 ((2 ∷ []) ∷ [])
      ∷ [];
}

-- the six pairs of unequal values
abbrev pub colours_language : LanguageView
colours_language = record {
  domain = 3;
  relations = relation_where (codes "neq") 3 2 (λ t. not (slice_index t 0 == slice_index t 1)) ∷ [];
}

-- the language of the kind
unfoldable pub language_of : Kind → LanguageView
language_of Horn = horn_language
language_of TwoSat = two_sat_language
language_of Sums = sums_language
language_of Parity = parity_language
language_of Colours = colours_language

-- ---- instances

-- how many variables each instance has
abbrev pub variables_of : Kind → ℕ
variables_of Horn = 40
variables_of TwoSat = 40
variables_of Sums = 40
variables_of Parity = 20
variables_of Colours = 40

-- the name of the instance with the number
abbrev pub instance_name : ℕ → List ℕ
instance_name i = codes "i" ++ decimal i

-- the name of the variable with the number
abbrev pub variable_name : ℕ → List ℕ
variable_name x = codes "x" ++ decimal x

-- the names of so many variables
unfoldable pub variable_names : ℕ → List (List ℕ)
variable_names v = map variable_name (range_with_len 0 v)

-- the constraint of the kind's relation with the name, on these variables
abbrev pub constraint_on : Kind → List ℕ → List ℕ → ConstraintView
constraint_on kind name scope =
    record { relation = unwrap_or (place_in (names_of (language_of kind)) name) 0; scope = scope }

-- two constraints that no assignment meets both, or one that none meets
unfoldable pub contradiction : Kind → List ConstraintView
contradiction Horn = constraint_on Horn (codes "one") (0 ∷ []) ∷ constraint_on Horn (codes "zero") (0 ∷ []) ∷ []
contradiction TwoSat =
    constraint_on TwoSat (codes "or") (0 ∷ 0 ∷ []) ∷ constraint_on TwoSat (codes "nand") (0 ∷ 0 ∷ []) ∷ []
contradiction Sums =
    constraint_on Sums (codes "s0") (0 ∷ 1 ∷ 2 ∷ [])
    ∷ constraint_on Sums (codes "s1") (0 ∷ 1 ∷ 2 ∷ []) ∷ []
contradiction Parity =
    constraint_on Parity (codes "parity") (0 ∷ 0 ∷ 0 ∷ [])
    ∷ constraint_on Parity (codes "two") (0 ∷ []) ∷ []
contradiction Colours = constraint_on Colours (codes "neq") (0 ∷ 0 ∷ []) ∷ []
