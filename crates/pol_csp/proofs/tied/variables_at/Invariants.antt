use Rattle.std.proofs.Common.{◌≡◌, take, length}
use Rattle.pol_relation.specs.Instances.{read_at}
use Rattle.pol_csp.proofs.tied.variables_at.Given as goal

abbrev pub invariant-loop-place : goal.invariant-loop-place
invariant-loop-place l = record {
  long : length l.variables ≡ 6;
  read : take l.place l.variables ≡ read_at l.of_cells (take l.place l.scope);
}
