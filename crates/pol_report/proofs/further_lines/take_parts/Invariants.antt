use Rattle.std.proofs.Common.{◌≡◌, ◌-◌, length}
use Rattle.pol_report.specs.Certificates.{part_from}
use Rattle.pol_report.specs.Grammar.{lines_from}
use Rattle.pol_report.specs.Reading.{behind}
use Rattle.pol_report.proofs.further_lines.take_parts.Given as goal

-- the parts so far, and those that are left, are those of all lines
abbrev pub invariant-loop : goal.invariant-loop
invariant-loop l = record {
  labels : l.combination.labels ≡ l.labels;
  read : length l.combination.parts ≡ l.counter;
  same : behind l.combination.parts (lines_from l.text part_from (l.count - l.counter) l.lines) ≡ lines_from l.text part_from l.count l.initial.lines;
}
