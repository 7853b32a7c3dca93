use Rattle.std.proofs.Common.{◌≡◌, ◌≤◌}
use Rattle.std.specs.Int.{bit_at}
use Rattle.pol_rows.specs.Signatures.{sum_below}
use Rattle.pol_rows.proofs.signature.count_values.Given as goal

abbrev pub invariant-loop-value : goal.invariant-loop-value
invariant-loop-value l = (l.count ≡ sum_below l.value (λ value. bit_at l.mask value)) × (l.count ≤ l.value)
