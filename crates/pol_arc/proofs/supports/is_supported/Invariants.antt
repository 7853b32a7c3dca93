use Rattle.pol_arc.proofs.SupportLemmas.{NoneSupports}
use Rattle.pol_arc.proofs.supports.is_supported.Given as goal

abbrev pub invariant-loop-i : goal.invariant-loop-i
invariant-loop-i l = NoneSupports l.relation.rows l.masks l.scope l.x l.a l.i
