use Rattle.std.proofs.Common.{ℕ, ◌<◌}
use Rattle.pol_checker.specs.Verdicts.{KeepsSets}
use Rattle.pol_checker.proofs.tables.first_broken_sets.Given as goal

-- each relation so far is preserved
abbrev pub invariant-loop-i : goal.invariant-loop-i
invariant-loop-i l = (r : ℕ) → r < l.i → KeepsSets l.lang l.table r
