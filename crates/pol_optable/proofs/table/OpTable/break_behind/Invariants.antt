use Rattle.std.proofs.Common.{ℕ, ◌-◌, ◌<◌, ◌≤◌, get_or}
use Rattle.pol_optable.specs.Breaks.{IsBroken, with_last}
use Rattle.pol_optable.proofs.table.OpTable.break_behind.Given as goal

abbrev pub invariant-loop-last : goal.invariant-loop-last
invariant-loop-last g l =
    (k : ℕ) → get_or l.numbers (g.row.K - 1) 0 ≤ k → k < l.last → IsBroken l.self l.rows (with_last l.numbers k) → ⊥
