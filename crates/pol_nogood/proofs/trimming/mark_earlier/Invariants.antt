use Rattle.std.proofs.Common.{take}
use Rattle.pol_nogood.specs.Marks.{MarksToo}
use Rattle.pol_nogood.proofs.trimming.mark_earlier.Given as goal

-- the references so far are marked
abbrev pub invariant-loop-reference : goal.invariant-loop-reference
invariant-loop-reference l = MarksToo (take l.reference-index l.references) l.initial.marks l.marks
