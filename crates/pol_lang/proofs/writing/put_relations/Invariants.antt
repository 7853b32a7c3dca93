use Rattle.std.proofs.Common.{◌≡◌, ◌++◌, take, flat_map}
use Rattle.pol_text.specs.Texts.{joined, printed_line}
use Rattle.pol_lang.specs.Texts.{relation_lines}
use Rattle.pol_lang.proofs.writing.put_relations.Given as goal

-- the relations so far stand behind what was there
abbrev pub invariant-loop-i : goal.invariant-loop-i
invariant-loop-i l = l.out ≡ l.initial.out ++ joined printed_line (flat_map relation_lines (take l.i l.file.language.relations))
