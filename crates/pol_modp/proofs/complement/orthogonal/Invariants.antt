use Rattle.pol_modp.specs.Nulls.{HasNulls}
use Rattle.pol_modp.proofs.complement.orthogonal.Given as goal

abbrev pub invariant-loop-f : goal.invariant-loop-f
invariant-loop-f l = HasNulls l.p l.n l.basis l.f l.equations.items
