-- The equations of the constraints of an instance, over their scopes and over the variables.
use Rattle.std.specs.Prelude.{◌==◌, ℕ, zero, suc, ◌%◌, ◌<◌, List, [], ◌∷◌, ◌++◌}
use Rattle.std.specs.Prelude.{length, map, All, slice_index_or, if◌then◌else◌, ◌≡◌}
use Rattle.std.specs.List.{range_with_len}
use Rattle.pol_relation.specs.Relations.{LanguageView, relation_of}
use Rattle.pol_relation.specs.Instances.{InstanceView, constraint_of}
use Rattle.pol_modp.specs.Equations.{EquationView}
use Rattle.pol_modp.specs.Combinations.{PartView, scope_at, weight_at}
use Rattle.pol_affine.specs.RelationEquations.{Describes}

-- the equations of the constraint's relation, of those of each relation
abbrev pub equations_at : InstanceView → List (List EquationView) → ℕ → List EquationView
equations_at inst tables c = slice_index_or tables (constraint_of inst c).relation []

-- the relation of each constraint is described by its equations
abbrev pub DescribeUsed : List ℕ → LanguageView → InstanceView → List (List EquationView) → Type 0
DescribeUsed labels lang inst tables =
    (c : ℕ)
    → c < length inst.constraints
    → (constraint_of inst c).relation < length tables
    → Describes labels (relation_of lang (constraint_of inst c).relation) (equations_at inst tables c)

-- an equation on the labels of what is read at the scope of a constraint
pub record PlacedView : Type 0 where
  pub constraint : ℕ
  pub equation : EquationView

-- the equation at the constraint
abbrev pub placed_at : ℕ → EquationView → PlacedView
placed_at c e = record { constraint = c; equation = e }

-- the equations of the first constraints, so many of them
abbrev pub placed_in : InstanceView → List (List EquationView) → ℕ → List PlacedView
placed_in inst tables zero = []
placed_in inst tables (suc c) = placed_in inst tables c ++ map (placed_at c) (equations_at inst tables c)

-- the constraint exists, and the equation has a coefficient below d for each place of its scope
pub record IsKnown (d : ℕ) (inst : InstanceView) (p : PlacedView) : Type 0 where
  pub known : p.constraint < length inst.constraints
  pub long : length p.equation.coefs ≡ length (scope_at inst p.constraint)
  pub below : All (λ a. a < d) p.equation.coefs

-- so it is for each of them
abbrev pub AreKnown : ℕ → InstanceView → List PlacedView → Type 0
AreKnown d inst placed = All (IsKnown d inst) placed

-- for each of n variables the sum of the coefficients at the places where it stands, modulo d
abbrev pub weights : (d n : ℕ) → (scope coefs : List ℕ) → List ℕ
weights d n scope coefs = map (λ v. weight_at v scope coefs % d) (range_with_len 0 n)

-- the equation over the variables of the instance
abbrev pub spread_over : ℕ → InstanceView → PlacedView → EquationView
spread_over d inst p = record {
  coefs = weights d (length inst.variables) (scope_at inst p.constraint) p.equation.coefs;
  right = p.equation.right;
}

-- the equation with the multiplier
abbrev pub part_with : ℕ → PlacedView → PartView
part_with m p = record {
  constraint = p.constraint;
  multiplier = m;
  right = p.equation.right;
  coefs = p.equation.coefs;
}

-- each equation with its multiplier, but those with multiplier 0
abbrev pub used_parts : List ℕ → List PlacedView → List PartView
used_parts [] placed = []
used_parts (m ∷ multipliers) [] = []
used_parts (m ∷ multipliers) (p ∷ placed) =
    if m == 0 then used_parts multipliers placed else part_with m p ∷ used_parts multipliers placed
