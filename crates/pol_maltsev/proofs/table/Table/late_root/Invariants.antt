use Rattle.std.proofs.Common.{ℕ, ◌<◌}
use Rattle.pol_maltsev.specs.Swaps.{StayTogether}
use Rattle.pol_maltsev.specs.Views.{sides_at}
use Rattle.pol_maltsev.proofs.table.Table.late_root.Given as goal

-- no smaller value stays
abbrev pub invariant-loop-b : goal.invariant-loop-b
invariant-loop-b l = (c : ℕ) → c < l.b → ¬ StayTogether l.self.domain (sides_at l.self l.k) l.a c
