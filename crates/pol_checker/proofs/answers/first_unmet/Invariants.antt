use Rattle.std.proofs.Common.{ℕ, ◌<◌}
use Rattle.pol_checker.specs.Verdicts.{MeetsAt}
use Rattle.pol_checker.proofs.answers.first_unmet.Given as goal

-- each constraint so far is met
abbrev pub invariant-loop-c : goal.invariant-loop-c
invariant-loop-c l = (i : ℕ) → i < l.c → MeetsAt l.lang l.inst l.assignment i
