use Rattle.std.proofs.Common.{◌≡◌, [], take}
use Rattle.pol_optable.proofs.SeekLemmas.{Tried}
use Rattle.pol_optable.proofs.set_fn.SetFn.seek_last.Given as goal

abbrev pub invariant-loop-mask : goal.invariant-loop-mask
invariant-loop-mask l = record {
  kept : take l.place l.masks ≡ take l.place l.fn.masks;
  tried : Tried l.self l.rows (take l.place l.fn.masks) l.bound l.first [] l.mask;
}
