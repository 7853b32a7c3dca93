use Rattle.pol_maltsev.specs.Solutions.{IsTableOfFirst, IsSizeOfFirst}
use Rattle.pol_maltsev.proofs.SolvingLemmas.{AreSizesSoFar}
use Rattle.pol_maltsev.proofs.solving.solve_maltsev.Given as goal

-- the table of the assignments that meet the constraints before, and the sizes so far
abbrev pub invariant-loop-c : goal.invariant-loop-c
invariant-loop-c l = record {
  table : IsTableOfFirst l.op l.lang l.inst l.c l.table;
  size : IsSizeOfFirst l.lang l.inst l.c l.size;
  sizes : AreSizesSoFar l.lang l.inst l.c l.sizes;
}
