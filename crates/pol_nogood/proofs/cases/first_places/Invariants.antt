use Rattle.std.proofs.Common.{◌≡◌, ◌<◌, ℕ, length, get_or, Some, None, slice_get}
use Rattle.pol_nogood.specs.Nogoods.{Pair}
use Rattle.pol_nogood.specs.FirstPlaces.{first_place}
use Rattle.pol_nogood.proofs.cases.first_places.Given as goal

abbrev pub invariant-loop-i : goal.invariant-loop-i
invariant-loop-i l = record {
  long : length l.places ≡ 3;
  first : (k : ℕ) (p : Pair) → k < l.i → slice_get l.nogood k ≡ Some p → get_or l.places k None ≡ first_place l.scope p.variable;
}
