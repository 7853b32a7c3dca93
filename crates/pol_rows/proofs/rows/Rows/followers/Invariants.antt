use Rattle.std.proofs.Common.{length}
use Rattle.pol_rows.proofs.PairLemmas.{FollowsSoFar}
use Rattle.pol_rows.proofs.rows.Rows.followers.Given as goal

abbrev pub invariant-loop-rest : goal.invariant-loop-rest
invariant-loop-rest l = FollowsSoFar l.self.domain l.self.rows l.i l.initial.rest l.rest l.followers

abbrev pub decreases-loop-rest : goal.decreases-loop-rest
decreases-loop-rest l = length l.rest
