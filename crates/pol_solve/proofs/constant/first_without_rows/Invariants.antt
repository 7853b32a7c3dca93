use Rattle.std.proofs.Common.{◌≢◌, ℕ, ◌<◌, []}
use Rattle.pol_relation.specs.Relations.{rows_of}
use Rattle.pol_relation.specs.Instances.{constraint_of}
use Rattle.pol_solve.proofs.constant.first_without_rows.Given as goal

-- the constraints so far have rows
abbrev pub invariant-loop-c : goal.invariant-loop-c
invariant-loop-c l = (k : ℕ) → k < l.c → rows_of l.lang (constraint_of l.inst k).relation ≢ []
