use Rattle.std.proofs.Common.{◌≡◌, ◌++◌, map, take}
use Rattle.pol_csp.specs.Variables.{on_variables}
use Rattle.pol_csp.proofs.tied.add_on_variables.Given as goal

abbrev pub invariant-loop-c : goal.invariant-loop-c
invariant-loop-c l = l.pool ≡ l.initial.pool ++ map (on_variables l.of_cells) (take l.c l.found)
