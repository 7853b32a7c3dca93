use Rattle.std.proofs.Common.{◌≡◌, length, take}
use Rattle.pol_relation.specs.Instances.{read_at}
use Rattle.pol_relation.proofs.instance.Instance.meets.Given as goal

abbrev pub invariant-loop-place : goal.invariant-loop-place
invariant-loop-place l = record {
  long : length l.tuple ≡ 6;
  read : take l.place l.tuple ≡ read_at l.assignment (take l.place l.scope);
}
