-- the significant lines that are left are those at the start, and the numbers fit
use Rattle.std.proofs.Common.{◌≡◌, ◌+◌, ◌<◌, ◌^◌, length}
use Rattle.pol_text.specs.Lines.{lines_of, significant_among}
use Rattle.pol_text.proofs.lines.LinesIterator.next.Given as goal

abbrev pub invariant-loop-self : goal.invariant-loop-self
invariant-loop-self l = record {
  same : significant_among l.self-inside.number l.self-inside.place (lines_of l.self-inside.rest.now) ≡ significant_among l.initial.self-inside.number l.initial.self-inside.place (lines_of l.initial.self-inside.rest.now);
  numbers : l.self-inside.number + length l.self-inside.rest.now < 2 ^ 32;
  places : l.self-inside.place + length l.self-inside.rest.now < 2 ^ 64;
}

abbrev pub decreases-loop-self : goal.decreases-loop-self
decreases-loop-self l = length l.self-inside.rest.now
