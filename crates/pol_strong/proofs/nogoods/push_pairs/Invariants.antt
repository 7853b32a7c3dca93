use Rattle.std.proofs.Common.{◌≡◌, ◌≤◌, ◌++◌, ◌-◌, take, drop}
use Rattle.pol_strong.proofs.nogoods.push_pairs.Given as goal

abbrev pub invariant-loop-i : goal.invariant-loop-i
invariant-loop-i l = record {
  order : l.fn.first ≤ l.i;
  pushed : l.to ≡ l.initial.to ++ take (l.i - l.fn.first) (drop l.fn.first l.nogood);
}
