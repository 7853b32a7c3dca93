use Rattle.pol_strong.specs.Contradictions.{AreOpenNext}
use Rattle.pol_strong.proofs.values.open_values.Given as goal

abbrev pub invariant-loop-s : goal.invariant-loop-s
invariant-loop-s l = AreOpenNext l.fn.d l.log l.s l.values l.left
