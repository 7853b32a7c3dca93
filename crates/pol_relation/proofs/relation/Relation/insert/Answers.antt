use Rattle.std.proofs.Common.{sym}
use Rattle.pol_relation.proofs.RelationLemmas.{with_row-there, AreLong-tuples, IsRelation-with_row}
use Rattle.pol_relation.proofs.relation.Relation.insert.Goals as goal

-- the row goes to its place
pub returns-in_ok-insert-clause-ok : goal.returns-in_ok-insert-clause-ok
returns-in_ok-insert-clause-ok c =
    let goes = rw (← c.self.view_is) at c.in-Err.ensures.goes in
    rw (← c.self.view_is, c.in_ok-insert.ensures.items, c.in_ok-row.ensures.ok) (λ i. record { domain = c.self.inside.domain; arity = c.self.inside.arity; rows = sym goes i })

pub invariant_of-self : goal.invariant_of-self
invariant_of-self c =
    let tuple = rw (← c.self.view_is) at c.requires.tuple in
    let goes = rw (← c.self.view_is) at c.in-Err.ensures.goes in
    rw (c.in_ok-insert.ensures.items, c.in_ok-row.ensures.ok, ← goes) (IsRelation-with_row _ _ c.self.invariant tuple)

-- the tuple is a row
pub returns-in_default-clause-ok : goal.returns-in_default-clause-ok
returns-in_default-clause-ok c =
    let is = c.self.invariant in
    let tuple = rw (← c.self.view_is) at c.requires.tuple in
    let member = rw (← c.self.view_is) at c.in_default.ensures.found in
    let there = with_row-there _ _ _ tuple.long (AreLong-tuples _ _ _ is.tuples) is.ascending member in
    rw (← c.self.view_is) (λ i. record { domain = c.self.inside.domain; arity = c.self.inside.arity; rows = sym there i })
