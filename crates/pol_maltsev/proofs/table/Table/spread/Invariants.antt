use Rattle.pol_maltsev.proofs.SampleLemmas.{IsSpreadSoFar}
use Rattle.pol_maltsev.proofs.table.Table.spread.Given as goal

-- the values before have got their steps
abbrev pub invariant-loop-c : goal.invariant-loop-c
invariant-loop-c l = IsSpreadSoFar l.op l.self l.p l.member l.c l.initial.samples l.samples
