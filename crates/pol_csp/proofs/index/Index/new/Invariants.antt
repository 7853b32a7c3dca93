use Rattle.std.proofs.Common.{length, ◌≡◌}
use Rattle.pol_csp.specs.Words.{IsIndex}
use Rattle.pol_csp.proofs.index.Index.new.Given as goal

abbrev pub invariant-loop-i : goal.invariant-loop-i
invariant-loop-i l = record {
  counted : length l.words.items ≡ l.i;
  index : IsIndex l.fn.lang l.words.items;
}
