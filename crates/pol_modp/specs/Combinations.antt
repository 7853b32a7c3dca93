-- Combinations: equations on the labels of what constraints read, and the sum of their multiples.
use Rattle.std.specs.Prelude.{◌==◌, ℕ, ◌+◌, ◌*◌, List, []}
use Rattle.std.specs.Prelude.{◌∷◌, map, slice_index, if◌then◌else◌}
use Rattle.std.specs.List.{sum_by}
use Rattle.pol_relation.specs.Relations.{LanguageView, relation_of, rows_of}
use Rattle.pol_relation.specs.Instances.{InstanceView, constraint_of}
use Rattle.pol_modp.specs.Equations.{EquationView}

-- a part: the number of a constraint, an equation on the labels of what is read at its scope, and a multiplier
pub record PartView : Type 0 where
  pub constraint : ℕ
  pub multiplier : ℕ
  pub right : ℕ
  pub coefs : List ℕ

-- a combination: a label for each value of the domain, and the parts that are added up
pub record CombinationView : Type 0 where
  pub labels : List ℕ
  pub parts : List PartView

-- what stands at a number that the combination does not have
abbrev pub no_part : PartView
no_part = record { constraint = 0; multiplier = 0; right = 0; coefs = [] }

-- the equation of the part
abbrev pub equation_of : PartView → EquationView
equation_of part = record { coefs = part.coefs; right = part.right }

-- the label of each of the values
abbrev pub labels_of : List ℕ → List ℕ → List ℕ
labels_of labels values = map (λ v. slice_index labels v) values

-- the scope of the constraint with the number
abbrev pub scope_at : InstanceView → ℕ → List ℕ
scope_at inst c = (constraint_of inst c).scope

-- the rows of its relation
abbrev pub rows_at : LanguageView → InstanceView → ℕ → List (List ℕ)
rows_at lang inst c = rows_of lang (constraint_of inst c).relation

-- and the arity of its relation
abbrev pub arity_at : LanguageView → InstanceView → ℕ → ℕ
arity_at lang inst c = (relation_of lang (constraint_of inst c).relation).arity

-- the sum of the coefficients at the places of the scope where the variable stands
abbrev pub weight_at : ℕ → List ℕ → List ℕ → ℕ
weight_at v [] coefs = 0
weight_at v (x ∷ scope) [] = 0
weight_at v (x ∷ scope) (a ∷ coefs) = (if x == v then a else 0) + weight_at v scope coefs

-- the coefficient of the variable in the sum of multiplier times equation
abbrev pub sum_at : InstanceView → List PartView → ℕ → ℕ
sum_at inst parts v =
    sum_by (λ (part : PartView). part.multiplier * weight_at v (scope_at inst part.constraint) part.coefs) parts

-- the right side of that sum
abbrev pub sum_right : List PartView → ℕ
sum_right parts = sum_by (λ (part : PartView). part.multiplier * part.right) parts
