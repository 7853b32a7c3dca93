use Rattle.std.proofs.Common.{◌≡◌, ◌≤◌, ◌*◌}
use Rattle.pol_rows.specs.Signatures.{sum_below, count_pairs}
use Rattle.pol_rows.specs.Counts.{in_signature}
use Rattle.pol_rows.proofs.rows.Rows.signature_size.Given as goal

abbrev pub invariant-loop-i : goal.invariant-loop-i
invariant-loop-i l =
    (l.size ≡ sum_below l.i (λ i. count_pairs l.self.domain (in_signature l.self.rows i))) × (l.size ≤ l.i * (l.self.domain * l.self.domain))
