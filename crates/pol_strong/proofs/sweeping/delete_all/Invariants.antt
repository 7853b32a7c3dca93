use Rattle.std.proofs.Common.{◌≡◌, ◌-◌, List, length}
use Rattle.pol_nogood.specs.Nogoods.{Pair}
use Rattle.pol_nogood.proofs.Counting.{nogood_count}
use Rattle.pol_strong.specs.Contradictions.{IsContradicted}
use Rattle.pol_strong.specs.Sweeps.{IsDeleting}
use Rattle.pol_strong.proofs.sweeping.delete_all.Given as goal

abbrev pub invariant-loop-store : goal.invariant-loop-store
invariant-loop-store l = record {
  deleting : IsDeleting l.lang l.inst l.store;
  most : l.store.most ≡ l.fn.store.most;
  kept : (nogood : List Pair) → IsContradicted l.fn.store.log nogood → IsContradicted l.store.log nogood;
}

abbrev pub decreases-loop-store : goal.decreases-loop-store
decreases-loop-store l = nogood_count l.lang.domain (length l.inst.variables) l.store.most - length l.store.log
