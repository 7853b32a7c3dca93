-- the lower digits so far are cut off
use Rattle.std.proofs.Common.{◌≡◌, ◌-◌, ◌+◌, ◌/◌, ◌^◌}
use Rattle.pol_base.proofs.numbering.digit.Given as goal

abbrev pub invariant-loop : goal.invariant-loop
invariant-loop l = l.rest ≡ l.cell / l.fn.d ^ (l.counter - (l.place + 1))
