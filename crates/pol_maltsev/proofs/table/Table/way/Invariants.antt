use Rattle.std.proofs.Common.{ℕ, ◌<◌}
use Rattle.pol_maltsev.specs.Swaps.{IsWay}
use Rattle.pol_maltsev.specs.Views.{sides_at}
use Rattle.pol_maltsev.proofs.table.Table.way.Given as goal

-- none of the values before
abbrev pub invariant-loop-q : goal.invariant-loop-q
invariant-loop-q l = (u : ℕ) → u < l.q → ¬ IsWay l.op (sides_at l.self l.k) l.b l.c u
