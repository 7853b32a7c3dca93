use Rattle.pol_csp.proofs.Searching.{within_push}
use Rattle.pol_csp.proofs.values.lowest_values.Goals as goal

pub loop-mask-preserved : goal.loop-mask-preserved
loop-mask-preserved c =
    rw c.in_ok-push.ensures.ok (within_push c.args.masks.now c.loop-mask.values c.loop-mask.mask-index _
    c.loop-mask-test.true c.lowest_value.ensures.has c.loop-mask.invariant)
