use Rattle.pol_maltsev.specs.Views.{sides_at}
use Rattle.pol_maltsev.proofs.SwapTables.{IsLeastSoFar}
use Rattle.pol_maltsev.proofs.table.Table.early_root.Given as goal

-- the least over the values before
abbrev pub invariant-loop-q : goal.invariant-loop-q
invariant-loop-q l = IsLeastSoFar l.op (sides_at l.self l.k) l.c l.q l.least
