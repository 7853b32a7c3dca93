use Rattle.std.proofs.Common.{◌<◌, arith}
use Rattle.std.proofs.lemmas.Nat.{pow_below}
use Rattle.pol_setfn.proofs.closed.is_idempotent.Goals as goal

pub apply-requires-clause-within : goal.apply-requires-clause-within
apply-requires-clause-within c =
    let below : c.loop-value.value < c.args.g.now.domain = omega (arith, c.loop-value-test.true, c.size-value-end.ensures.size, c.domain.ensures.domain) in
    rw c.value_mask.ensures.mask (pow_below c.loop-value.value c.args.g.now.domain below)
