use Rattle.std.proofs.Common.{ℕ, ◌-◌, ◌^◌, ◌<◌, ◌≤◌, List}
use Rattle.pol_base.specs.Tuples.{IsTuple, cell_of}
use Rattle.pol_optable.specs.Breaks.{IsBrokenFrom}
use Rattle.pol_optable.proofs.table.OpTable.next_break.Given as goal

abbrev pub invariant-fronts : goal.invariant-fronts
invariant-fronts g l = record {
  tuple : IsTuple l.count g.row.K l.numbers;
  behind : cell_of l.count l.from ≤ cell_of l.count l.numbers;
  before : (qs : List ℕ) → IsTuple l.count g.row.K qs → cell_of l.count qs < cell_of l.count l.numbers
      → IsBrokenFrom l.self l.rows l.from qs → ⊥;
}

abbrev pub decreases-fronts : goal.decreases-fronts
decreases-fronts g l = l.count ^ g.row.K - cell_of l.count l.numbers
