use Rattle.pol_maltsev.proofs.WalkLemmas.{IsWalking}
use Rattle.pol_maltsev.proofs.table.Table.walk.Given as goal

-- the member has the values before
abbrev pub invariant-loop-k : goal.invariant-loop-k
invariant-loop-k l = IsWalking l.op l.self l.word l.k l.member
