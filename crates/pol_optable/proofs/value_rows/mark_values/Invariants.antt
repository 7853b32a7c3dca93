use Rattle.std.proofs.Common.{length, ◌≡◌}
use Rattle.pol_optable.proofs.MarkLemmas.{AreSomeWords}
use Rattle.pol_optable.proofs.value_rows.mark_values.Given as goal

abbrev pub invariant-loop-i : goal.invariant-loop-i
invariant-loop-i l = record {
  long : length l.words ≡ length l.fn.words;
  some : AreSomeWords l.relation l.i l.words;
}
