use Rattle.std.proofs.Common.{◌≡◌, length, take}
use Rattle.pol_relation.specs.Instances.{read_at}
use Rattle.pol_gen.proofs.making.meets.Given as goal

-- the tuple has the values of the variables so far
abbrev pub invariant-loop-place : goal.invariant-loop-place
invariant-loop-place l = record {
  long : length l.tuple ≡ 6;
  read : take l.place l.tuple ≡ read_at l.hidden (take l.place l.scope);
}
