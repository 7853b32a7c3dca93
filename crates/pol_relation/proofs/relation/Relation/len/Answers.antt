use Rattle.std.proofs.Common.{arith}
use Rattle.pol_relation.proofs.RelationLemmas.{length-rows_few}
use Rattle.pol_relation.proofs.relation.Relation.len.Goals as goal

pub overflow_cast-result : goal.overflow_cast-result
overflow_cast-result c = let few = length-rows_few _ c.self.invariant in let held = c.self.inside.rows.ok in omega arith

pub returns-clause-few : goal.returns-clause-few
returns-clause-few c = let few = length-rows_few _ c.self.invariant in let held = c.self.inside.rows.ok in omega arith
