use Rattle.std.proofs.Common.{◌≡◌, true, length, take}
use Rattle.std.specs.List.{list_all, range_with_len}
use Rattle.pol_modp.specs.CombinationFaults.{is_zero_at}
use Rattle.pol_modp.proofs.checking.remainder.Given as goal

abbrev pub invariant-loop-v : goal.invariant-loop-v
invariant-loop-v l = list_all (is_zero_at l.lang l.inst l.combination.parts) (take l.v (range_with_len 0 (length l.inst.variables))) ≡ true
