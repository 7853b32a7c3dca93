use Rattle.std.proofs.Common.{length}
use Rattle.pol_base.proofs.counting.+advance.Given as goal

abbrev pub decreases-advance : goal.decreases-advance
decreases-advance l = length l.digits.now
