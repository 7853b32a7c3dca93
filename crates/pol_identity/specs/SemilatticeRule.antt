-- The rule of each cell of a semilattice operation.
use Rattle.std.specs.Prelude.{ℕ, ◌==◌, nat_lt, if◌then◌else◌, List, [], ◌∷◌, slice_index}
use Rattle.pol_base.specs.Tuples.{cell_of, digits_of}
use Rattle.pol_identity.specs.declared.identity.CellRule.{CellRule}
use Rattle.pol_identity.specs.declared.identity.CellRule.TheVariants.{Free, Value, SameAs}

-- f(x, y) = x where x = y, and f(x, y) = f(y, x) where y < x
abbrev pub rule_of_two : (d x y : ℕ) → CellRule
rule_of_two d x y = if x == y then Value x else (if nat_lt y x then SameAs (cell_of d (y ∷ x ∷ [])) else Free)

-- the same of two arguments in a list
abbrev pub semilattice_rule_at : ℕ → List ℕ → CellRule
semilattice_rule_at d arguments = rule_of_two d (slice_index arguments 0) (slice_index arguments 1)

-- the rule of a cell is that of its arguments
abbrev pub semilattice_rule : (d cell : ℕ) → CellRule
semilattice_rule d cell = semilattice_rule_at d (digits_of d 2 cell)
