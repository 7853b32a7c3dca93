use Rattle.std.proofs.Common.{◌≡◌, ◌-◌, ◌≤◌, length}
use Rattle.pol_report.specs.Tokens.{to_end, as_value}
use Rattle.pol_report.specs.Reading.{all_behind}
use Rattle.pol_report.proofs.taking.more_values.Given as goal

-- the values so far, and those that are left, are those of all tokens
abbrev pub invariant-loop-token : goal.invariant-loop-token
invariant-loop-token l = record {
  can : (goal.iterator-loop-token).can_next l.token-iterator;
  ends : (goal.iterator-loop-token).is_finite l.token-iterator;
  few : length l.values ≤ l.most;
  same : all_behind l.values (to_end as_value (l.most - length l.values) l.token-iterator) ≡ all_behind l.fn.values (to_end as_value (l.most - length l.fn.values) l.fn.tokens);
}
