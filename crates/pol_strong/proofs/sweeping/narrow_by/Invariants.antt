use Rattle.std.proofs.Common.{◌<◌, ℕ, ◌∷◌, get_or}
use Rattle.pol_nogood.specs.Logs.{value_case}
use Rattle.pol_strong.specs.Sweeps.{IsLess, AreCleared}
use Rattle.pol_strong.proofs.sweeping.narrow_by.Given as goal

abbrev pub invariant-loop-i : goal.invariant-loop-i
invariant-loop-i l = record {
  less : IsLess l.store.domain l.masks l.next;
  one : AreCleared l.store.log (value_case l.x l.a) l.next;
  two : (k : ℕ) → k < l.i → AreCleared l.store.log (get_or l.front k (record { variable = l.x; value = l.a }) ∷ value_case l.x l.a) l.next;
}
