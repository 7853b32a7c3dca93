use Rattle.std.proofs.Common.{arith}
use Rattle.pol_arc.proofs.PairLemmas.{one_pair_is}
use Rattle.pol_arc.proofs.supports.is_pair.Goals as goal

pub returns-then-variable-x : goal.returns-then-variable-x
returns-then-variable-x c =
    record { pair = one_pair_is c.args.nogood.now c.pair-variable.result.0 c.pair-variable.result.1 c.args.x c.args.a (omega (arith, c.len.ensures.pairs, c.if-len-ne1.false)) c.pair-variable.ensures.pair c.if-variable-x.true }
