use Rattle.std.proofs.Common.{◌≡◌, length, take}
use Rattle.pol_optable.proofs.SeekLemmas.{Tried}
use Rattle.pol_optable.proofs.set_fn.SetFn.+seek.Given as goal

abbrev pub decreases-seek : goal.decreases-seek
decreases-seek l = length l.from.now

abbrev pub invariant-loop-mask : goal.invariant-loop-mask
invariant-loop-mask l = record {
  kept : take l.place l.masks ≡ take l.place l.fn.masks;
  tried : Tried l.self l.rows (take l.place l.fn.masks) l.bound l.first l.behind l.mask;
}
