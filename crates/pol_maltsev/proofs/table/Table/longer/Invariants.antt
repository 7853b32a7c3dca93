use Rattle.std.proofs.Common.{take, ◌+◌}
use Rattle.pol_maltsev.specs.Compacts.{AreReached}
use Rattle.pol_maltsev.specs.Restrictions.{IsRestricted}
use Rattle.pol_maltsev.specs.Views.{InTable}
use Rattle.pol_maltsev.proofs.table.Table.longer.Given as goal

-- of the members that agree with one of those before
abbrev pub invariant-loop-t : goal.invariant-loop-t
invariant-loop-t l = AreReached (IsRestricted (InTable l.op l.self) (take l.t-index l.shorter) l.self.order l.k) (take (l.k + 1) l.self.order) l.found.items
