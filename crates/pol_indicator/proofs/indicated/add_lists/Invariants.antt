use Rattle.std.proofs.Common.{◌≡◌, ◌+◌, ◌-◌, ◌^◌, length}
use Rattle.pol_base.specs.Tuples.{IsTuple, cell_of}
use Rattle.pol_relation.specs.Relations.{rows_of}
use Rattle.pol_indicator.specs.Ruled.{SameCells}
use Rattle.pol_indicator.proofs.ListedLemmas.{IsAdded}
use Rattle.pol_indicator.proofs.indicated.add_lists.Given as goal

-- the constraints of the lists so far are added
abbrev pub invariant-lists : goal.invariant-lists
invariant-lists g l = record {
  tuple : IsTuple (length (rows_of l.fn.lang l.fn.number)) g.row.K l.numbers;
  same : SameCells l.fn.problem l.problem;
  added : IsAdded l.fn.lang g.row.K l.fn.number (cell_of (length (rows_of l.fn.lang l.fn.number)) l.numbers) l.fn.problem.constraints l.problem.constraints;
  counted : length l.problem.constraints
      ≡ length l.fn.problem.constraints + cell_of (length (rows_of l.fn.lang l.fn.number)) l.numbers;
}

abbrev pub decreases-lists : goal.decreases-lists
decreases-lists g l = length (rows_of l.fn.lang l.fn.number) ^ g.row.K - cell_of (length (rows_of l.fn.lang l.fn.number)) l.numbers
