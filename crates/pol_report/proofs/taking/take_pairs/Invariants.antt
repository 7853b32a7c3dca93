use Rattle.std.proofs.Common.{◌≡◌, ◌-◌, length}
use Rattle.pol_report.specs.Tokens.{counted}
use Rattle.pol_report.specs.Certificates.{pair_from}
use Rattle.pol_report.specs.Reading.{behind}
use Rattle.pol_report.proofs.taking.take_pairs.Given as goal

-- the pairs so far, and those that are left, are those of all tokens
abbrev pub invariant-loop : goal.invariant-loop
invariant-loop l = record {
  read : length l.nogood ≡ l.counter;
  same : behind l.nogood (counted pair_from (l.count - l.counter) l.tokens) ≡ counted pair_from l.count l.initial.tokens;
}
