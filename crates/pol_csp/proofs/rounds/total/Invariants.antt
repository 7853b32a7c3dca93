use Rattle.std.proofs.Common.{◌≤◌, ◌*◌, ◌≡◌, take, sum}
use Rattle.pol_csp.proofs.rounds.total.Given as goal

abbrev pub invariant-loop-mask : goal.invariant-loop-mask
invariant-loop-mask l = record {
  so_far : l.total ≡ sum (take l.mask-index l.masks);
  small : l.total ≤ l.mask-index * 255;
}
