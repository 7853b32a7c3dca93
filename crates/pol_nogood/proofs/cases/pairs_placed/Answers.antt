use Rattle.std.proofs.Common.{◌≡◌, nat_lt, false, ◌&&◌, sym}
use Rattle.std.proofs.lemmas.Bool.{and_left, and_right, le-ltb}
use Rattle.pol_nogood.proofs.PairWalks.{all_fails}
use Rattle.pol_nogood.proofs.cases.pairs_placed.Goals as goal
use Rattle.pol_nogood.proofs.cases.pairs_placed.Goals.{then-variable-n-via-then-variable-n, then-variable-n-via-else-variable-n+then-value-d}

pub returns-then-variable-n : goal.returns-then-variable-n
returns-then-variable-n c =
    let fails : (nat_lt c.pair-variable.result.0 c.args.n && nat_lt c.pair-variable.result.1 c.args.d) ≡ false = elim c.then-variable-n.branch [
      | then-variable-n-via-then-variable-n w ↦ and_left _ _ (le-ltb _ _ w.if-variable-n.true)
      | then-variable-n-via-else-variable-n+then-value-d w ↦ and_right _ _ (le-ltb _ _ w.if-value-d.true)
    ] in
    record { placed = sym (all_fails (λ p. nat_lt p.variable c.args.n && nat_lt p.value c.args.d) c.args.nogood.now c.loop-i.i _ c.pair-variable.ensures.pair fails) }
