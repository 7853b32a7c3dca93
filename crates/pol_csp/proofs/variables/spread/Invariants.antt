use Rattle.std.proofs.Common.{◌≡◌, take, length}
use Rattle.pol_relation.specs.Instances.{read_at}
use Rattle.pol_csp.proofs.variables.spread.Given as goal

abbrev pub invariant-loop-cell : goal.invariant-loop-cell
invariant-loop-cell l = record {
  long : length l.cells ≡ 4096;
  read : take l.cell l.cells ≡ read_at l.values (take l.cell l.of_cells);
}
