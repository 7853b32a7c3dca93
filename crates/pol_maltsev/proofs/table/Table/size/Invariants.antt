use Rattle.std.proofs.Common.{◌≡◌, ◌≤◌, ◌*◌}
use Rattle.pol_rows.specs.Signatures.{sum_below, count_pairs}
use Rattle.pol_maltsev.specs.Views.{same_in}
use Rattle.pol_maltsev.proofs.table.Table.size.Given as goal

-- those of the places before are counted
abbrev pub invariant-loop-i : goal.invariant-loop-i
invariant-loop-i l = record {
  counted : l.count ≡ sum_below l.i (λ i. count_pairs l.self.domain (same_in l.self i));
  few : l.count ≤ l.i * (l.self.domain * l.self.domain);
}
