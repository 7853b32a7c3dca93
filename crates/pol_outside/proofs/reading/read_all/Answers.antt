use Rattle.pol_outside.proofs.Pieces.{takes_on, takes_at_most_on}
use Rattle.pol_outside.proofs.reading.read_all.Goals as goal
use Rattle.std.proofs.Common.{rules, arith}

pub returns-in_err-take_more-clause-too_long : goal.returns-in_err-take_more-clause-too_long
returns-in_err-take_more-clause-too_long g c = λ failed. takes_on _ _ _ _ _ c.loop-taken.invariant.held (omega arith) (search rules)

pub returns-in_err-take_more-clause-no_memory : goal.returns-in_err-take_more-clause-no_memory
returns-in_err-take_more-clause-no_memory g c = λ failed. takes_at_most_on _ _ _ _ _ c.loop-taken.invariant.held (omega arith) (search rules)
