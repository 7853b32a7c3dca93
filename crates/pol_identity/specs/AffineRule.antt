-- The rule of each cell of an affine operation with given labels.
use Rattle.std.specs.Prelude.{◌≡◌, ℕ, List, slice_index}
use Rattle.pol_base.specs.Tuples.{digits_of}
use Rattle.pol_optable.specs.Identities.{IsLabelling, affine_sum}
use Rattle.pol_identity.specs.Labels.{labelled}
use Rattle.pol_identity.specs.declared.identity.CellRule.{CellRule}
use Rattle.pol_identity.specs.declared.identity.CellRule.TheVariants.{Value}

-- a domain, and the label of each of its values
pub record AffineView : Type 0 where
  pub domain : ℕ
  pub labels : List ℕ

-- the domain is that of the labels, which are a labelling of it
pub record SuitsLabels (it : AffineView) (d : ℕ) : Type 0 where
  pub same : d ≡ it.domain
  pub is_labelling : IsLabelling d it.labels

-- x - y + z modulo d of the labels of the arguments
abbrev pub sum_at : List ℕ → ℕ → List ℕ → ℕ
sum_at labels d arguments =
    affine_sum d (slice_index labels (slice_index arguments 0)) (slice_index labels (slice_index arguments 1))
    (slice_index labels (slice_index arguments 2))

-- three arguments have the value whose label is that sum
abbrev pub affine_rule_at : List ℕ → ℕ → List ℕ → CellRule
affine_rule_at labels d arguments = Value (labelled labels (sum_at labels d arguments))

-- the rule of a cell is that of its arguments
abbrev pub affine_rule : List ℕ → (d cell : ℕ) → CellRule
affine_rule labels d cell = affine_rule_at labels d (digits_of d 3 cell)
