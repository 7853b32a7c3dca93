use Rattle.pol_maltsev.specs.Swaps.{IsLateAt}
use Rattle.pol_maltsev.specs.Views.{AreMade, sides_at}
use Rattle.pol_maltsev.proofs.table.Table.late.Given as goal

-- the values before are made
abbrev pub invariant-loop-a : goal.invariant-loop-a
invariant-loop-a l = AreMade (IsLateAt l.op l.self.width (sides_at l.self l.k)) l.self.domain l.self.width l.a l.made
