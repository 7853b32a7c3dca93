use Rattle.std.proofs.Common.{◌≡◌, ◌<◌, ◌++◌, ◌∷◌, [], length, sym, ◌∙◌, Contains}
use Rattle.std.specs.Prelude.{slice_index}
use Rattle.std.proofs.lemmas.Bool.{false≢true}
use Rattle.pol_maltsev.proofs.ScopeLemmas.{places_more, places_same, places_all}
use Rattle.pol_maltsev.proofs.scoping.first_places.Goals as goal
use Rattle.pol_maltsev.proofs.scoping.first_places.Goals.{then-not-has+in_ok-push+in_ok-push-2, else-not-has}

-- one number more
pub loop-e-preserved : goal.loop-e-preserved
loop-e-preserved c = elim c.if-not-has.branch [
  | then-not-has+in_ok-push+in_ok-push-2 w ↦
      let numbers : c.if-not-has.numbers ≡ c.loop-e.numbers ++ c.loop-e.e ∷ [] = w.numbers-is ∙ w.in_ok-push.ensures.ok in
      let places : c.if-not-has.places ≡ c.loop-e.places ++ slice_index c.args.scope.now c.loop-e.e ∷ [] = w.places-is ∙ w.in_ok-push-2.ensures.ok in
      let new : ¬ Contains c.loop-e.places (slice_index c.args.scope.now c.loop-e.e) = λ there. false≢true (sym w.if-not-has.true ∙ c.has.ensures.has.1 (rw c.as_slice.ensures.items there)) in
      rw (numbers, places) (places_more c.args.scope.now c.loop-e.e c.loop-e.numbers c.loop-e.places c.loop-e-test.true c.loop-e.invariant new)
  | else-not-has w ↦
      rw (w.numbers-is, w.places-is)
      (places_same c.args.scope.now c.loop-e.e c.loop-e.numbers c.loop-e.places c.loop-e.invariant (rw c.as_slice.ensures.items at (c.has.ensures.has.0 w.if-not-has.false)))
]
