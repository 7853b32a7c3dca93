use Rattle.std.proofs.Common.{◌≡◌, ◌≤◌, ◌*◌, cond}
use Rattle.pol_rows.specs.Signatures.{sum_below}
use Rattle.pol_maltsev.specs.Views.{same_in}
use Rattle.pol_maltsev.proofs.table.Table.pairs.Given as goal

-- those of the values before are counted
abbrev pub invariant-loop-a : goal.invariant-loop-a
invariant-loop-a l = record {
  counted : l.count ≡ sum_below l.a (λ a. sum_below l.self.domain (λ b. cond (same_in l.self l.i a b) 1 0));
  few : l.count ≤ l.a * l.self.domain;
}
