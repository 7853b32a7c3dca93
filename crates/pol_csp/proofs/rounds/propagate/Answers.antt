use Rattle.pol_csp.specs.Narrowing.{MeetsAll}
use Rattle.pol_csp.proofs.Narrowing.{narrows_trans}
use Rattle.pol_csp.proofs.rounds.propagate.Goals as goal

pub returns-then-after-before-clause-narrows : goal.returns-then-after-before-clause-narrows
returns-then-after-before-clause-narrows c =
    narrows_trans (MeetsAll c.args.index.now c.args.pool.now) c.args.masks.now c.rounds.masks c.round.new.masks
    c.rounds.invariant.narrows
    (rw c.if-not-kept.false at c.in_ok-kept.ensures.narrows)

pub rounds-preserved : goal.rounds-preserved
rounds-preserved c = record {
  counted = c.total-after.ensures.sum;
  narrows = narrows_trans (MeetsAll c.args.index.now c.args.pool.now) c.args.masks.now c.rounds.masks
      c.round.new.masks c.rounds.invariant.narrows
      (rw c.if-not-kept.false at c.in_ok-kept.ensures.narrows);
}

pub round-requires-clause-masks : goal.round-requires-clause-masks
round-requires-clause-masks c = c.rounds.invariant.narrows.masks 5 c.requires.masks
