use Rattle.std.proofs.Common.{◌≡◌, ◌-◌, ◌≤◌, length}
use Rattle.pol_report.specs.Limits.{most_items, most_steps}
use Rattle.pol_report.specs.Grammar.{items_from}
use Rattle.pol_report.specs.Reading.{all_behind}
use Rattle.pol_report.proofs.reading.items_to_end.Given as goal

-- the items so far, and those of the lines that are left, are those of all lines
abbrev pub invariant-loop-line : goal.invariant-loop-line
invariant-loop-line l = record {
  can : (goal.iterator-loop-line).can_next l.lines;
  ends : (goal.iterator-loop-line).is_finite l.lines;
  few : length l.items ≤ most_items;
  left : l.left ≤ most_steps;
  same : all_behind l.items (items_from l.text (most_items - length l.items) l.left l.lines) ≡ items_from l.text most_items most_steps l.fn.lines;
}
