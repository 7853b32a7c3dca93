-- What a rule asks of a cell.
use Rattle.std.specs.Prelude.{◌≡◌, ◌<◌, ℕ, List, length, slice_index, ⊤}
use Rattle.pol_identity.specs.declared.identity.CellRule.{CellRule}
use Rattle.pol_identity.specs.declared.identity.CellRule.TheVariants.{Free, Value, SameAs}

-- the value in the cell is as the rule says
abbrev pub Obeys : List ℕ → ℕ → CellRule → Type 0
Obeys cells cell Free = ⊤
Obeys cells cell (Value v) = slice_index cells cell ≡ v
Obeys cells cell (SameAs other) = slice_index cells cell ≡ slice_index cells other

-- the rule of a cell names a value below d, or a lower cell
abbrev pub IsRule : ℕ → ℕ → CellRule → Type 0
IsRule d cell Free = ⊤
IsRule d cell (Value v) = v < d
IsRule d cell (SameAs other) = other < cell

-- each cell obeys its rule
abbrev pub ObeysAll : List ℕ → (ℕ → CellRule) → Type 0
ObeysAll cells rule = (cell : ℕ) → cell < length cells → Obeys cells cell (rule cell)
