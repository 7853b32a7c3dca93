use Rattle.std.proofs.Common.{◌≡◌, ◌+◌, ◌≤◌, length, []}
use Rattle.pol_lang.specs.Grammar.{names_of_tokens}
use Rattle.pol_lang.specs.Limits.{most_variables}
use Rattle.pol_lang.proofs.instance_lines.begun_instance.Given as goal

-- the names so far, and those that are left, are those of all tokens
abbrev pub invariant-loop-token : goal.invariant-loop-token
invariant-loop-token l = record {
  can : (goal.iterator-loop-token).can_next l.token-iterator;
  ends : (goal.iterator-loop-token).is_finite l.token-iterator;
  begun : l.inst ≡ record { name = l.name; variables = l.inst.variables; constraints = [] };
  few : length l.inst.variables + length l.token-iterator ≤ most_variables;
  same : names_of_tokens l.inst.variables l.token-iterator ≡ names_of_tokens [] l.fn.tokens;
}
