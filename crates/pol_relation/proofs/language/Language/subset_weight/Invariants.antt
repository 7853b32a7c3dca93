use Rattle.std.proofs.Common.{◌≡◌, ◌*◌, ◌≤◌, take}
use Rattle.pol_relation.specs.Weights.{subset_weight_of}
use Rattle.pol_relation.proofs.language.Language.subset_weight.Given as goal

abbrev pub invariant-loop-i : goal.invariant-loop-i
invariant-loop-i l = record {
  sum : l.weight ≡ subset_weight_of l.self.domain (take l.i l.self.relations);
  few : l.weight ≤ l.i * 887503681;
}
