use Rattle.std.proofs.Common.{◌≡◌, ◌≤◌, ◌*◌, get_or}
use Rattle.std.specs.Int.{bit_at}
use Rattle.pol_rows.specs.Signatures.{sum_below}
use Rattle.pol_rows.proofs.rows.Rows.count_at.Given as goal

abbrev pub invariant-loop-values : goal.invariant-loop-values
invariant-loop-values l =
    (l.count ≡ sum_below l.values-index (λ a. sum_below l.d (λ b. bit_at (get_or l.values-items a 0) b))) × (l.count ≤ l.values-index * l.d)
