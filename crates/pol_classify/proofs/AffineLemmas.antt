-- Affine tables, and those that labels with a number below one tell.
use Rattle.std.proofs.Common.{◌≡◌, ℕ, ◌+◌, ◌^◌, ◌<◌, ◌≤◌, ◌⊎◌, inl, inr, List, length, arith, sym, ap, ◌∙◌, subst, refl, lit≤}
use Rattle.std.proofs.lemmas.Bool.{cases_eq}
use Rattle.std.proofs.lemmas.List.{get_or_default}
use Rattle.pol_base.specs.Tuples.{cell_of, digits_of}
use Rattle.pol_base.proofs.CellLemmas.{cell_of-IsTuple, cell_of-digits_of, digits_of-cell_of-IsTuple}
use Rattle.pol_relation.specs.Relations.{LanguageView, IsLanguage, NamedRelation, relation_of, no_named}
use Rattle.pol_optable.specs.Operations.{Operation, IsOperation, Preserves, IsPolymorphism, operation_of}
use Rattle.pol_optable.specs.Tables.{IsOpTable}
use Rattle.pol_optable.specs.Identities.{IsAffine}
use Rattle.pol_optable.specs.ClassLines.{IsTable}
use Rattle.pol_identity.specs.Labels.{IsChoice, IsAffineLabelling}
use Rattle.pol_identity.proofs.AffineLemmas.{labels_tell_cells}
use Rattle.pol_classify.specs.AffineTables.{IsTableBy, IsTableBelow}
use Rattle.pol_classify.proofs.SizeLemmas.{few_of_three}

-- an operation preserves a language exactly where it preserves the relation with each number
pub all_preserved :
    (f : Operation) (lang : LanguageView)
    → ((i : ℕ) → i < length lang.relations → Preserves f (relation_of lang i))
    → IsPolymorphism f lang
all_preserved f lang preserved i none inside =
    subst (λ (e : NamedRelation). Preserves f e.relation) (sym (get_or_default lang.relations i none no_named inside))
    (preserved i inside)

-- the operation of the table, by its cells
pub by_cells : (d : ℕ) (labels : List ℕ) (f : Operation) → IsTableBy d labels f → f ≡ operation_of d 3 f.cells
by_cells d labels f by_labels =
    ap (λ n. operation_of n f.arity f.cells) by_labels.domain_is
    ∙ ap (λ k. operation_of d k f.cells) by_labels.is_table.arity_is

-- labels tell one table
told_by :
    (d : ℕ) (labels cells : List ℕ) (f : Operation)
    → IsTableBy d labels f
    → IsOpTable 3 (operation_of d 3 cells)
    → IsAffineLabelling (operation_of d 3 cells) labels
    → cells ≡ f.cells
told_by d labels cells f by_labels is affine =
    labels_tell_cells (operation_of d 3 cells) f labels is by_labels.is_table (sym by_labels.domain_is)
    affine.is_labelling affine.by_labels by_labels.affine.by_labels

-- the tables below the number of all lists of labels are all
pub all_tables :
    (lang : LanguageView) (cells : List ℕ)
    → IsTable IsAffine 3 lang cells
    → IsTableBelow lang (lang.domain ^ lang.domain) cells
all_tables lang cells table =
    let affine = table.satisfies in record {
      table = table;
      told = record {
        labels = affine.labels;
        number = cell_of-IsTuple lang.domain lang.domain affine.labels affine.is_labelling.tuple;
        affine = record { size = affine.size; is_labelling = affine.is_labelling; by_labels = affine.by_labels };
      };
    }

-- no table is told by labels below the first
pub no_tables : (lang : LanguageView) (cells : List ℕ) → ¬ IsTableBelow lang 0 cells
no_tables lang cells below = omega (arith, below.told.number)

module _ (lang : LanguageView) (is : IsLanguage lang) (number : ℕ) where
  abbrev d : ℕ
  d = lang.domain

  abbrev now : List ℕ
  now = digits_of d d number

  pub table_more : (cells : List ℕ) → IsTableBelow lang number cells → IsTableBelow lang (number + 1) cells
  table_more cells below = record {
    table = below.table;
    told = record {
      labels = below.told.labels;
      number = omega (arith, below.told.number);
      affine = below.told.affine;
    };
  }

  pub one_length :
      (xs ys : List ℕ)
      → IsTableBelow lang (number + 1) xs
      → IsTableBelow lang (number + 1) ys
      → length xs ≡ length ys
  one_length xs ys one other = one.table.is_operation.all_cells ∙ sym other.table.is_operation.all_cells

  -- a table more is told by the labels with the number
  more_cases :
      (cells : List ℕ)
      → IsTableBelow lang (number + 1) cells
      → IsTableBelow lang number cells ⊎ IsAffineLabelling (operation_of d 3 cells) now
  more_cases cells below =
      let told = below.told in
      elim (cases_eq (cell_of d told.labels) number) [
        | inl same ↦
            let labels_are : told.labels ≡ now
            = sym (digits_of-cell_of-IsTuple d d told.labels told.affine.is_labelling.tuple) ∙ ap (digits_of d d) same in
            inr (subst (IsAffineLabelling (operation_of d 3 cells)) labels_are told.affine)
        | inr apart ↦ inl (record {
          table = below.table;
          told = record { labels = told.labels; number = omega (arith, told.number, apart); affine = told.affine };
        })
      ]

  -- numbers that are no labelling add none
  pub none_new :
      ¬ IsChoice d now
      → (cells : List ℕ)
      → IsTableBelow lang (number + 1) cells
      → IsTableBelow lang number cells
  none_new none cells below =
      elim (more_cases cells below) [
        | inl before ↦ before
        | inr affine ↦ absurd (none (record { size = affine.size; is_labelling = affine.is_labelling }))
      ]

  module _ (f : Operation) (by_labels : IsTableBy d now f) where
    -- labels with a table add that one
    pub only_new :
        (cells : List ℕ)
        → IsTableBelow lang (number + 1) cells
        → IsTableBelow lang number cells ⊎ (cells ≡ f.cells)
    only_new cells below =
        let is_cells : IsOpTable 3 (operation_of d 3 cells) = record {
          arity_is = refl;
          domain_is = is.domain_is;
          is_operation = below.table.is_operation;
          few_cells = few_of_three lang is;
          few_arguments = lit≤ tt;
        } in
        elim (more_cases cells below) [
          | inl before ↦ inl before
          | inr affine ↦ inr (told_by d now cells f by_labels is_cells affine)
        ]

    -- unless it breaks a relation
    pub not_preserved :
        ¬ IsPolymorphism f lang
        → (cells : List ℕ)
        → IsTableBelow lang (number + 1) cells
        → IsTableBelow lang number cells
    not_preserved breaks cells below =
        elim (only_new cells below) [
          | inl before ↦ before
          | inr same ↦
              let here : operation_of d 3 cells ≡ f
              = ap (operation_of d 3) same ∙ sym (by_cells d now f by_labels) in
              absurd (breaks (subst (λ g. IsPolymorphism g lang) here below.table.preserves))
        ]

    pub is_new : 1 ≤ d → number < d ^ d → IsPolymorphism f lang → IsTableBelow lang (number + 1) f.cells
    is_new some known preserves =
        let here = by_cells d now f by_labels in
        let affine : IsAffineLabelling (operation_of d 3 f.cells) now
        = subst (λ g. IsAffineLabelling g now) here by_labels.affine in
        record {
          table = record {
            is_operation = subst IsOperation here by_labels.is_table.is_operation;
            satisfies = record {
              labels = now;
              size = affine.size;
              is_labelling = affine.is_labelling;
              by_labels = affine.by_labels;
            };
            preserves = subst (λ g. IsPolymorphism g lang) here preserves;
          };
          told = record {
            labels = now;
            number = omega (arith, cell_of-digits_of d d number some known);
            affine = affine;
          };
        }
