use Rattle.std.proofs.Common.{◌≡◌, take}
use Rattle.pol_relation.specs.Instances.{read_at}
use Rattle.pol_maltsev.proofs.reading.read.Given as goal

-- the values at the places before are read
abbrev pub invariant-loop-p : goal.invariant-loop-p
invariant-loop-p l = l.word.items ≡ read_at l.row (take l.p-index l.places)
