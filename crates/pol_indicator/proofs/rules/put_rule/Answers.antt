use Rattle.std.proofs.lemmas.Nat.{pow_pos, pow_below}
use Rattle.pol_indicator.proofs.rules.put_rule.Goals as goal

pub restrict-requires-clause-mask : goal.restrict-requires-clause-mask
restrict-requires-clause-mask c =
    let below = rw c.in-Value.is at c.requires.rule in
    rw c.value_mask.ensures.mask (record { some = pow_pos c.in-Value.value; below = pow_below c.in-Value.value c.args.problem.now.domain below })
