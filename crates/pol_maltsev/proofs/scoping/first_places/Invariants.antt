use Rattle.pol_maltsev.proofs.ScopeLemmas.{AreFirstPlacesSoFar}
use Rattle.pol_maltsev.proofs.scoping.first_places.Given as goal

-- of the numbers before
abbrev pub invariant-loop-e : goal.invariant-loop-e
invariant-loop-e l = AreFirstPlacesSoFar l.scope l.e l.numbers l.places
