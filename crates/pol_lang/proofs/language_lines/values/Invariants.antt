use Rattle.std.proofs.Common.{◌≡◌}
use Rattle.pol_lang.specs.Grammar.{values_of}
use Rattle.pol_lang.proofs.ValueLemmas.{with_front}
use Rattle.pol_lang.proofs.language_lines.values.Given as goal

-- the values so far, and those that are left, are those of all tokens
abbrev pub invariant-loop-token : goal.invariant-loop-token
invariant-loop-token l = record {
  can : (goal.iterator-loop-token).can_next l.token-iterator;
  ends : (goal.iterator-loop-token).is_finite l.token-iterator;
  same : with_front l.values (values_of l.d l.token-iterator) ≡ values_of l.d l.fn.tokens;
}
