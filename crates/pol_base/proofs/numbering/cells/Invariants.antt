-- the power so far, which is small enough
use Rattle.std.proofs.Common.{◌≡◌, ◌^◌, ◌≤◌}
use Rattle.pol_base.proofs.numbering.cells.Given as goal

abbrev pub invariant-loop : goal.invariant-loop
invariant-loop l = record { power_is : l.power ≡ l.fn.d ^ l.counter; few : l.power ≤ 15625 }
