use Rattle.std.proofs.Common.{length}
use Rattle.pol_rows.proofs.PairLemmas.{IsLeastSoFar}
use Rattle.pol_rows.proofs.rows.Rows.pair_for.Given as goal

abbrev pub invariant-loop-rest : goal.invariant-loop-rest
invariant-loop-rest l = IsLeastSoFar l.self.domain l.self.rows l.i l.a l.b l.initial.rest l.rest l.least

abbrev pub decreases-loop-rest : goal.decreases-loop-rest
decreases-loop-rest l = length l.rest
