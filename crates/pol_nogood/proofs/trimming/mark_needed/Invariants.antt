use Rattle.pol_nogood.proofs.MarkLemmas.{AreMarksFrom}
use Rattle.pol_nogood.proofs.trimming.mark_needed.Given as goal

-- what the steps from this number on lead to is marked
abbrev pub invariant-loop-s : goal.invariant-loop-s
invariant-loop-s l = AreMarksFrom l.log l.s l.marks
