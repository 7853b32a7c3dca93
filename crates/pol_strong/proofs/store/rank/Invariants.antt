use Rattle.std.proofs.Common.{◌≡◌, take}
use Rattle.pol_strong.specs.Ranks.{rank_of}
use Rattle.pol_strong.proofs.store.rank.Given as goal

abbrev pub invariant-loop-i : goal.invariant-loop-i
invariant-loop-i l = l.rank ≡ rank_of l.n l.d (take l.i l.nogood)
