-- The languages of the kinds are within the limits of files.
use Rattle.std.proofs.Common.{◌≡◌, ◌<◌, ◌≤◌, length, true, refl, arith}
use Rattle.std.specs.Prelude.{nat_le}
use Rattle.std.specs.List.{list_all}
use Rattle.std.proofs.lemmas.Bool.{leb-true}
use Rattle.pol_text.specs.Lines.{is_name}
use Rattle.pol_relation.specs.Relations.{LanguageView, IsLanguage}
use Rattle.pol_relation.specs.Weights.{weight_of, subset_weight_of, most_weight}
use Rattle.pol_lang.specs.Files.{IsFileLanguage}
use Rattle.pol_gen.proofs.RowLemmas.{All-from_list_all}
use Rattle.pol_gen.specs.Kinds.{language_of}
use Rattle.pol_gen.specs.declared.kinds.Kind.{Kind}
use Rattle.pol_gen.specs.declared.kinds.Kind.TheVariants.{Horn, TwoSat, Sums, Parity, Colours}

-- the tests on a language that compute
record AreFew (lang : LanguageView) : Type 0 where
  named : list_all (λ e. is_name e.name) lang.relations ≡ true
  relations : nat_le (length lang.relations) 32 ≡ true
  tuples : list_all (λ e. nat_le (length e.relation.rows) 128) lang.relations ≡ true
  triples : nat_le (weight_of 3 lang.relations) most_weight ≡ true
  subsets : nat_le (subset_weight_of lang.domain lang.relations) most_weight ≡ true

are_few : (kind : Kind) → AreFew (language_of kind)
unfolding language_of
are_few Horn = record { named = refl; relations = refl; tuples = refl; triples = refl; subsets = refl }
are_few TwoSat = record { named = refl; relations = refl; tuples = refl; triples = refl; subsets = refl }
are_few Sums = record { named = refl; relations = refl; tuples = refl; triples = refl; subsets = refl }
are_few Parity = record { named = refl; relations = refl; tuples = refl; triples = refl; subsets = refl }
are_few Colours = record { named = refl; relations = refl; tuples = refl; triples = refl; subsets = refl }

within_limits : (lang : LanguageView) → IsLanguage lang → AreFew lang → IsFileLanguage lang
within_limits lang is few = record {
  is_language = is;
  names_are = All-from_list_all (λ e. is_name e.name) (λ e. is_name e.name ≡ true) (λ e passes. passes) lang.relations few.named;
  few_relations = leb-true (length lang.relations) 32 few.relations;
  few_tuples = All-from_list_all (λ e. nat_le (length e.relation.rows) 128) (λ e. length e.relation.rows ≤ 128) (λ e passes. leb-true (length e.relation.rows) 128 passes) lang.relations few.tuples;
  few_triples = leb-true (weight_of 3 lang.relations) most_weight few.triples;
  few_subsets = leb-true (subset_weight_of lang.domain lang.relations) most_weight few.subsets;
}

pub IsFileLanguage-kind : (kind : Kind) → IsLanguage (language_of kind) → IsFileLanguage (language_of kind)
IsFileLanguage-kind kind is = within_limits (language_of kind) is (are_few kind)

-- there are relations
pub some_relations : (kind : Kind) → 0 < length (language_of kind).relations
unfolding language_of
some_relations Horn = omega arith
some_relations TwoSat = omega arith
some_relations Sums = omega arith
some_relations Parity = omega arith
some_relations Colours = omega arith
