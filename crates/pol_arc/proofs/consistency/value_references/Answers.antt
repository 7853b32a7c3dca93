use Rattle.pol_nogood.specs.Nogoods.{Pair, IsContained}
use Rattle.pol_nogood.specs.Logs.{value_case}
use Rattle.std.proofs.Common.{[], ◌++◌, List, sym, subst}
use Rattle.pol_nogood.proofs.LogMaking.{value_referred, value_covers}
use Rattle.pol_arc.proofs.consistency.value_references.Goals as goal

pub loop-a-preserved : goal.loop-a-preserved
loop-a-preserved c =
    rw c.in_ok-push.ensures.ok
    (value_referred c.args.log.now [] c.args.v c.loop-a.a c.loop-a.references c.step_of.result c.loop-a.invariant c.step_of.ensures.known
    (subst (λ (pairs : List Pair). IsContained pairs ([] ++ value_case c.args.v c.loop-a.a)) (sym c.step_of.ensures.nogood) (value_covers [] c.args.v c.loop-a.a)))
