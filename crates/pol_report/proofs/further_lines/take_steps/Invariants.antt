use Rattle.std.proofs.Common.{◌≡◌, ◌-◌, length}
use Rattle.pol_report.specs.Certificates.{step_from}
use Rattle.pol_report.specs.Grammar.{lines_from}
use Rattle.pol_report.specs.Reading.{behind}
use Rattle.pol_report.proofs.further_lines.take_steps.Given as goal

-- the steps so far, and those that are left, are those of all lines
abbrev pub invariant-loop : goal.invariant-loop
invariant-loop l = record {
  read : length l.log ≡ l.counter;
  same : behind l.log (lines_from l.text step_from (l.count - l.counter) l.lines) ≡ lines_from l.text step_from l.count l.initial.lines;
}
