use Rattle.pol_csp.specs.Narrowing.{MeetsAll}
use Rattle.pol_csp.proofs.Narrowing.{narrows_trans}
use Rattle.pol_csp.proofs.rounds.round.Goals as goal

pub loop-place-preserved : goal.loop-place-preserved
loop-place-preserved c =
    narrows_trans (MeetsAll c.args.index.now c.args.pool.now) c.args.masks.now c.loop-place.masks
    c.revise_waiting.new.masks c.loop-place.invariant
    (rw c.if-not-kept.false at c.in_ok-kept.ensures.narrows)

pub revise_waiting-requires-clause-masks : goal.revise_waiting-requires-clause-masks
revise_waiting-requires-clause-masks c = c.loop-place.invariant.masks 5 c.requires.masks
