use Rattle.std.proofs.Common.{◌≡◌, ◌++◌, take, map}
use Rattle.pol_text.specs.Texts.{joined, printed_line}
use Rattle.pol_lang.specs.Texts.{tuple_tokens}
use Rattle.pol_lang.proofs.writing.put_tuples.Given as goal

-- the rows so far stand behind what was there
abbrev pub invariant-loop-i : goal.invariant-loop-i
invariant-loop-i l = l.out ≡ l.initial.out ++ joined printed_line (map tuple_tokens (take l.i l.relation.rows))
