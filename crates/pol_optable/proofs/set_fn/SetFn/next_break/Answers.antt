use Rattle.std.proofs.Common.{take}
use Rattle.pol_optable.proofs.SeekLemmas.{all_before}
use Rattle.pol_optable.proofs.set_fn.SetFn.next_break.Goals as goal

pub returns-else-seek_from-clause-none : goal.returns-else-seek_from-clause-none
returns-else-seek_from-clause-none c =
    all_before c.args.self.now c.args.rows.now (take c.args.rows.now.arity c.args.from.now)
    (rw (c.arity-arity.ensures.arity, c.relation.ensures.same) at c.if-seek_from.ensures.none)
