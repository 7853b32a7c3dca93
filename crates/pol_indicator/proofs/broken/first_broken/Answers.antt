use Rattle.pol_indicator.proofs.BrokenLemmas.{between}
use Rattle.pol_indicator.proofs.broken.first_broken.Goals as goal

pub returns-clause-none : goal.returns-clause-none
returns-clause-none g c = between g.row.K c.args.table.now c.args.set.now c.args.part.first c.args.part.end c.next_break.result c.next_break.ensures.none
