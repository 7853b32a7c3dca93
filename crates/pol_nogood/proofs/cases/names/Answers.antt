use Rattle.std.proofs.Common.{◌==◌, sym}
use Rattle.std.proofs.lemmas.Bool.{eq-eqb}
use Rattle.pol_nogood.proofs.PairWalks.{any_found}
use Rattle.pol_nogood.proofs.cases.names.Goals as goal

pub returns-then-variable-v : goal.returns-then-variable-v
returns-then-variable-v c = record { named = sym (any_found (λ p. p.variable == c.args.v) c.args.nogood.now c.loop-i.i _ c.pair-variable.ensures.pair (eq-eqb _ _ c.if-variable-v.true)) }
