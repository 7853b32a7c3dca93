use Rattle.std.proofs.Common.{ℕ, ◌↔◌, take}
use Rattle.std.specs.Prelude.{IsBitSet}
use Rattle.pol_rows.specs.Runs.{SomeHasAt}
use Rattle.pol_rows.proofs.rows.Rows.values_at.Given as goal

abbrev pub invariant-loop-number : goal.invariant-loop-number
invariant-loop-number l = (v : ℕ) → IsBitSet l.values v ↔ SomeHasAt l.self.rows (take l.number-index l.numbers) l.i v
