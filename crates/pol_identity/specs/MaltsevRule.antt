-- The rule of each cell of a Mal'tsev operation.
use Rattle.std.specs.Prelude.{ℕ, ◌==◌, if◌then◌else◌, List, slice_index}
use Rattle.pol_base.specs.Tuples.{digits_of}
use Rattle.pol_identity.specs.declared.identity.CellRule.{CellRule}
use Rattle.pol_identity.specs.declared.identity.CellRule.TheVariants.{Free, Value}

-- f(x, y, z) = x where y = z, and else z where x = y
abbrev pub rule_of_three : (x y z : ℕ) → CellRule
rule_of_three x y z = if y == z then Value x else (if x == y then Value z else Free)

-- the same of three arguments in a list
abbrev pub maltsev_rule_at : List ℕ → CellRule
maltsev_rule_at arguments = rule_of_three (slice_index arguments 0) (slice_index arguments 1) (slice_index arguments 2)

-- the rule of a cell is that of its arguments
abbrev pub maltsev_rule : (d cell : ℕ) → CellRule
maltsev_rule d cell = maltsev_rule_at (digits_of d 3 cell)
