use Rattle.std.proofs.Common.{take}
use Rattle.pol_maltsev.specs.Compacts.{AreReached}
use Rattle.pol_maltsev.specs.Views.{InTable}
use Rattle.pol_maltsev.proofs.table.Table.fronts.Given as goal

-- for the lists at the first k places
abbrev pub invariant-loop-k : goal.invariant-loop-k
invariant-loop-k l = AreReached (InTable l.op l.self) (take l.k l.self.order) l.found.items
