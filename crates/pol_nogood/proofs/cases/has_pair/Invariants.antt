use Rattle.std.proofs.Common.{◌≡◌, false, take}
use Rattle.std.specs.List.{list_any}
use Rattle.pol_nogood.specs.LogFaults.{same_pair}
use Rattle.pol_nogood.proofs.cases.has_pair.Given as goal

abbrev pub invariant-loop-i : goal.invariant-loop-i
invariant-loop-i l = list_any (λ q. same_pair (record { variable = l.variable; value = l.value }) q) (take l.i l.nogood) ≡ false
