use Rattle.pol_setfn.proofs.ProjectedLemmas.{answered_around}
use Rattle.pol_setfn.proofs.broken.first_broken.Goals as goal

pub returns-clause-none : goal.returns-clause-none
returns-clause-none c = answered_around c.args.g.now c.args.sets.now c.min-relation.result c.len-count.result c.broken_among-2.result c.len-count.ensures.relations c.in_default-broken_among.ensures.none c.broken_among-2.ensures.none
