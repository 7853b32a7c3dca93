use Rattle.std.proofs.Common.{◌≡◌, take, length}
use Rattle.pol_relation.specs.Instances.{read_at}
use Rattle.pol_csp.proofs.given.meets.Given as goal

abbrev pub invariant-loop-place : goal.invariant-loop-place
invariant-loop-place l = record {
  long : length l.tuple ≡ 6;
  read : take l.place l.tuple ≡ read_at l.values (take l.place l.scope);
}
