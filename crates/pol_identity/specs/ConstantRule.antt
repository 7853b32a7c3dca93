-- The rule of each cell of a constant operation.
use Rattle.std.specs.Prelude.{ℕ, zero, suc}
use Rattle.pol_identity.specs.declared.identity.CellRule.{CellRule}
use Rattle.pol_identity.specs.declared.identity.CellRule.TheVariants.{Free, SameAs}

-- each cell but cell 0 has the value of cell 0
abbrev pub constant_rule : ℕ → CellRule
constant_rule zero = Free
constant_rule (suc cell) = SameAs 0
