use Rattle.std.proofs.Common.{◌≡◌, ◌<◌, ℕ}
use Rattle.pol_strong.specs.Finished.{HasValue}
use Rattle.pol_strong.proofs.closing.delete_empty.Given as goal

abbrev pub invariant-loop-v : goal.invariant-loop-v
invariant-loop-v l = record {
  same : l.store ≡ l.initial.store;
  left : (w : ℕ) → w < l.v → HasValue l.lang.domain l.fn.store.log w;
}
