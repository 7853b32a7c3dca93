-- Labels of the values of a domain, and the operations that they turn into x - y + z.
use Rattle.std.specs.Prelude.{ℕ, suc, List, [], ◌∷◌, ◌==◌, if◌then◌else◌}
use Rattle.pol_optable.specs.Operations.{Operation}
use Rattle.pol_optable.specs.Identities.{IsLabelling, IsAffineSize, IsAffineBy}

-- the labels are a labelling of a domain on which affine operations are sought
pub record IsChoice (d : ℕ) (labels : List ℕ) : Type 0 where
  pub size : IsAffineSize d
  pub is_labelling : IsLabelling d labels

-- the labels are a labelling of the domain, of 2, 3 or 5 values, that turns the operation into x - y + z modulo d
pub record IsAffineLabelling (f : Operation) (labels : List ℕ) : Type 0 where
  pub size : IsAffineSize f.domain
  pub is_labelling : IsLabelling f.domain labels
  pub by_labels : IsAffineBy labels f

-- the first value that has the label
abbrev pub labelled : List ℕ → ℕ → ℕ
labelled [] label = 0
labelled (first ∷ labels) label = if first == label then 0 else suc (labelled labels label)
