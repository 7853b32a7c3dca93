use Rattle.std.proofs.Common.{◌≡◌, sum}
use Rattle.pol_csp.specs.Narrowing.{Narrows, MeetsAll}
use Rattle.pol_csp.proofs.rounds.propagate.Given as goal

abbrev pub invariant-rounds : goal.invariant-rounds
invariant-rounds l = record {
  counted : l.before ≡ sum l.masks;
  narrows : Narrows (MeetsAll l.fn.index l.fn.pool) l.fn.masks l.masks;
}

abbrev pub decreases-rounds : goal.decreases-rounds
decreases-rounds l = sum l.masks
