use Rattle.std.proofs.Common.{ℕ, ◌<◌}
use Rattle.pol_checker.specs.Verdicts.{Keeps}
use Rattle.pol_checker.proofs.tables.first_broken.Given as goal

-- each relation so far is preserved
abbrev pub invariant-loop-i : goal.invariant-loop-i
invariant-loop-i g l = (r : ℕ) → r < l.i → Keeps l.lang l.table r
