use Rattle.pol_rows.proofs.PairLemmas.{AreJoined}
use Rattle.pol_rows.proofs.signature.follow_each.Given as goal

abbrev pub invariant-loop-value : goal.invariant-loop-value
invariant-loop-value l = AreJoined l.values l.value l.initial.followers l.followers
