use Rattle.pol_setfn.proofs.ProjectedLemmas.{broken_language}
use Rattle.pol_setfn.proofs.broken.add_broken.Goals as goal

pub returns-in_ok-add_vectors-in-Some-clause-preserves : goal.returns-in_ok-add_vectors-in-Some-clause-preserves
returns-in_ok-add_vectors-in-Some-clause-preserves c = (
  λ yes. cc,
  λ keeps. absurd (broken_language c.args.g.now c.args.sets.now c.in-Some.broken.relation c.in-Some.broken.masks c.in-Some.ensures.broken keeps),
)
