use Rattle.pol_nogood.proofs.CopyLemmas.{IsCopying}
use Rattle.pol_nogood.proofs.trimming.copy_marked.Given as goal

-- the marked steps so far are copied, and have their new numbers
abbrev pub invariant-loop-s : goal.invariant-loop-s
invariant-loop-s l = IsCopying l.log l.marks l.s l.part l.numbers
