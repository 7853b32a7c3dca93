use Rattle.std.proofs.Common.{sym}
use Rattle.std.proofs.lemmas.Bool.{and_from, eq-eqb}
use Rattle.pol_nogood.specs.Nogoods.{Pair}
use Rattle.pol_nogood.specs.LogFaults.{same_pair}
use Rattle.pol_nogood.proofs.PairWalks.{any_found}
use Rattle.pol_nogood.proofs.cases.has_pair.Goals as goal

pub returns-then-value-other_value : goal.returns-then-value-other_value
returns-then-value-other_value c =
    let p : Pair = record { variable = c.args.variable; value = c.args.value } in
    record { member = sym (any_found (λ q. same_pair p q) c.args.nogood.now c.loop-i.i _ c.pair-other.ensures.pair (and_from _ _ (eq-eqb _ _ c.if-variable-other.true) (eq-eqb _ _ c.if-value-other_value.true))) }
