use Rattle.pol_maltsev.specs.Samples.{AreRestrictedBefore}
use Rattle.pol_maltsev.proofs.table.Table.restrict.Given as goal

abbrev pub ghost-restricted_classes : goal.ghost-restricted_classes
ghost-restricted_classes a = record { rows = a.found.now; first = a.q }

-- the places before are restricted
abbrev pub invariant-loop-k : goal.invariant-loop-k
invariant-loop-k l = AreRestrictedBefore l.op l.self (record { rows = l.found; first = l.q }) l.k l.places.items
