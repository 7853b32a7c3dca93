use Rattle.std.proofs.Common.{◌≡◌, ◌-◌}
use Rattle.pol_report.specs.Tokens.{counted, one, as_number}
use Rattle.pol_report.specs.Reading.{behind}
use Rattle.pol_report.proofs.taking.take_numbers.Given as goal

-- the numbers so far, and those that are left, are those of all tokens
abbrev pub invariant-loop : goal.invariant-loop
invariant-loop l = behind l.numbers (counted (one as_number) (l.count - l.counter) l.tokens) ≡ counted (one as_number) l.count l.initial.tokens
