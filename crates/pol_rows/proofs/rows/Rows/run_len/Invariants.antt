use Rattle.std.proofs.Common.{length, ◌-◌}
use Rattle.pol_rows.proofs.RunLemmas.{AgreesSoFar}
use Rattle.pol_rows.proofs.rows.Rows.run_len.Given as goal

abbrev pub invariant-loop-count : goal.invariant-loop-count
invariant-loop-count l = AgreesSoFar l.self.rows l.numbers l.i l.count

abbrev pub decreases-loop-count : goal.decreases-loop-count
decreases-loop-count l = length l.numbers - l.count
