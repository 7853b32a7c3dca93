use Rattle.pol_setfn.proofs.ProjectedLemmas.{among_more}
use Rattle.pol_setfn.proofs.broken.broken_among.Goals as goal

pub loop-relation-preserved : goal.loop-relation-preserved
loop-relation-preserved c = among_more c.args.g.now c.args.sets.now c.args.first c.loop-relation.relation c.loop-relation.invariant c.in_default.ensures.none
