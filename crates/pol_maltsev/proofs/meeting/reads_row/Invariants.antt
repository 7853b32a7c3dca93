use Rattle.std.proofs.Common.{◌≡◌, length, take}
use Rattle.pol_relation.specs.Instances.{read_at}
use Rattle.pol_maltsev.proofs.meeting.reads_row.Given as goal

-- the values at the places before are read
abbrev pub invariant-loop-k : goal.invariant-loop-k
invariant-loop-k l = record {
  long : length l.word ≡ 6;
  read : take l.k l.word ≡ read_at l.tuple (take l.k l.scope);
}
