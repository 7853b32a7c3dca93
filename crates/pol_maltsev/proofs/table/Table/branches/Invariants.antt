use Rattle.pol_maltsev.specs.Views.{InTable}
use Rattle.pol_maltsev.proofs.BranchLemmas.{AreBranches}
use Rattle.pol_maltsev.proofs.table.Table.branches.Given as goal

-- for the values before
abbrev pub invariant-loop-v : goal.invariant-loop-v
invariant-loop-v l = AreBranches (InTable l.op l.self) l.self.order l.k l.t l.v l.found.items
