use Rattle.std.proofs.Common.{◌≡◌, take}
use Rattle.pol_indicator.specs.Closing.{relations_of}
use Rattle.pol_indicator.proofs.row_sets.RowSets.new.Given as goal

-- the relations so far
abbrev pub invariant-loop-i : goal.invariant-loop-i
invariant-loop-i l = l.sets.items ≡ take l.i (relations_of l.lang)
