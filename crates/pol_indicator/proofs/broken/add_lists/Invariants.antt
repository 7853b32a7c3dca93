use Rattle.std.proofs.Common.{◌≤◌, length}
use Rattle.pol_base.specs.Tuples.{IsTuple}
use Rattle.pol_relation.specs.Relations.{rows_of}
use Rattle.pol_indicator.specs.Closing.{AddsListed}
use Rattle.pol_indicator.proofs.broken.add_lists.Given as goal

-- constraints of lists of rows alone are added
abbrev pub invariant-loop : goal.invariant-loop
invariant-loop g l = record {
  rows : IsTuple (length (rows_of l.fn.rows l.fn.part.relation)) g.row.K l.numbers;
  more : length l.fn.pool ≤ length l.pool;
  added : AddsListed l.fn.rows g.row.K l.fn.pool l.pool;
}
