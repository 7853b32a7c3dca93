-- The rule of each cell of a near unanimity operation.
use Rattle.std.specs.Prelude.{ℕ, ◌+◌, ◌==◌, nat_le, List, length, Option, Some, None}
use Rattle.std.specs.List.{count_by, find}
use Rattle.pol_base.specs.Tuples.{digits_of}
use Rattle.pol_identity.specs.declared.identity.CellRule.{CellRule}
use Rattle.pol_identity.specs.declared.identity.CellRule.TheVariants.{Free, Value}

-- the value that all arguments but at most one are, and none where there is none; of three arguments or more at most
-- one value is that
unfoldable pub forced_value : List ℕ → Option ℕ
forced_value arguments = find (λ x. nat_le (length arguments) (count_by (λ y. y == x) arguments + 1)) arguments

-- the value, where there is one
abbrev pub rule_to : Option ℕ → CellRule
rule_to None = Free
rule_to (Some x) = Value x

-- a cell of K arguments has the value that all of them but at most one are
abbrev pub near_unanimity_rule : (d K cell : ℕ) → CellRule
near_unanimity_rule d K cell = rule_to (forced_value (digits_of d K cell))
