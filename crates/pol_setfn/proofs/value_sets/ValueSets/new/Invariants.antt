use Rattle.std.proofs.Common.{◌≡◌, take, map}
use Rattle.pol_setfn.proofs.value_sets.ValueSets.new.Given as goal

-- the relations so far
abbrev pub invariant-loop-i : goal.invariant-loop-i
invariant-loop-i l = l.marks.items ≡ take l.i (map (λ named. named.relation) l.lang.relations)
