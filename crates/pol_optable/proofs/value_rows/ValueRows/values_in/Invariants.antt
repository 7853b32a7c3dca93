use Rattle.std.proofs.Common.{ℕ, ◌↔◌}
use Rattle.std.specs.Prelude.{IsBitSet}
use Rattle.pol_optable.proofs.ValueWordLemmas.{IsLowRead}
use Rattle.pol_optable.proofs.value_rows.ValueRows.values_in.Given as goal

abbrev pub invariant-loop-value : goal.invariant-loop-value
invariant-loop-value l = (v : ℕ) → IsBitSet l.found v ↔ IsLowRead l.self l.place l.i l.fn.word l.value v
