use Rattle.pol_maltsev.specs.Swaps.{IsEarlyAt}
use Rattle.pol_maltsev.specs.Views.{AreMade, sides_at}
use Rattle.pol_maltsev.proofs.table.Table.early.Given as goal

-- the values before are made
abbrev pub invariant-loop-c : goal.invariant-loop-c
invariant-loop-c l = AreMade (IsEarlyAt l.op l.self.width (sides_at l.self l.k)) l.self.domain l.self.width l.c l.made
