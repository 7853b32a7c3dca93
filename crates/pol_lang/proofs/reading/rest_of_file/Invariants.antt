use Rattle.std.proofs.Common.{◌≡◌, ◌+◌, length}
use Rattle.pol_text.specs.Lines.{lines_of}
use Rattle.pol_lang.specs.Grammar.{rest_of_file}
use Rattle.pol_lang.proofs.reading.rest_of_file.Given as goal

-- what is left, read into the language so far, is what all was when the loop began
abbrev pub invariant-loop-line : goal.invariant-loop-line
invariant-loop-line l = record {
  can : (goal.iterator-loop-line).can_next l.lines;
  ends : (goal.iterator-loop-line).is_finite l.lines;
  same : rest_of_file l.file (length (lines_of l.bytes) + 1) l.lines ≡ rest_of_file l.initial.file (length (lines_of l.bytes) + 1) l.initial.lines;
}
