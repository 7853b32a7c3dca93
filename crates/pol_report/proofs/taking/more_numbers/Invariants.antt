use Rattle.std.proofs.Common.{◌≡◌, ◌-◌, ◌≤◌, length}
use Rattle.pol_report.specs.Tokens.{to_end, as_number}
use Rattle.pol_report.specs.Reading.{all_behind}
use Rattle.pol_report.proofs.taking.more_numbers.Given as goal

-- the numbers so far, and those that are left, are those of all tokens
abbrev pub invariant-loop-token : goal.invariant-loop-token
invariant-loop-token l = record {
  can : (goal.iterator-loop-token).can_next l.token-iterator;
  ends : (goal.iterator-loop-token).is_finite l.token-iterator;
  few : length l.numbers ≤ l.most;
  same : all_behind l.numbers (to_end as_number (l.most - length l.numbers) l.token-iterator) ≡ all_behind l.fn.numbers (to_end as_number (l.most - length l.fn.numbers) l.fn.tokens);
}
