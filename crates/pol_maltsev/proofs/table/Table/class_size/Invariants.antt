use Rattle.std.proofs.Common.{◌≡◌, ◌≤◌, cond}
use Rattle.pol_rows.specs.Signatures.{sum_below}
use Rattle.pol_maltsev.specs.Views.{same_in}
use Rattle.pol_maltsev.proofs.table.Table.class_size.Given as goal

-- those before are counted
abbrev pub invariant-loop-b : goal.invariant-loop-b
invariant-loop-b l = record {
  counted : l.count ≡ sum_below l.b (λ b. cond (same_in l.self l.i l.a b) 1 0);
  few : l.count ≤ l.b;
}
