use Rattle.std.proofs.Common.{◌/◌, length}
use Rattle.pol_relation.specs.Relations.{tuples_in}
use Rattle.pol_relation.proofs.TupleLemmas.{IsReading}
use Rattle.pol_relation.proofs.relation.Relation.from_rows.Given as goal

abbrev pub invariant-loop-rest : goal.invariant-loop-rest
invariant-loop-rest l = IsReading l.fn.d l.arity l.relation l.rest (tuples_in l.arity (length l.fn.rows / l.arity) l.fn.rows)

abbrev pub decreases-loop-rest : goal.decreases-loop-rest
decreases-loop-rest l = length l.rest
