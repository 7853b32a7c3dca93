use Rattle.pol_csp.specs.Narrowing.{Narrows, MeetsAll}
use Rattle.pol_csp.proofs.rounds.round.Given as goal

abbrev pub invariant-loop-place : goal.invariant-loop-place
invariant-loop-place l = Narrows (MeetsAll l.fn.index l.fn.pool) l.initial.masks l.masks
