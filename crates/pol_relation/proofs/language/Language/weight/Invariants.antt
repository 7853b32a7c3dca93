use Rattle.std.proofs.Common.{◌≡◌, ◌-◌, ◌^◌, min, take}
use Rattle.pol_relation.specs.Weights.{weight_of}
use Rattle.pol_relation.proofs.language.Language.weight.Given as goal

abbrev pub invariant-loop-i : goal.invariant-loop-i
invariant-loop-i l = l.weight ≡ min (weight_of l.k (take l.i l.self.relations)) (2 ^ 64 - 1)
