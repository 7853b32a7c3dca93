use Rattle.std.proofs.Common.{sym, subst}
use Rattle.pol_relation.specs.Relations.{IsRelationOver}
use Rattle.pol_relation.proofs.RelationLemmas.{IsRelationOver-relation_of}
use Rattle.pol_relation.proofs.NameLemmas.{relation-at}
use Rattle.pol_relation.proofs.language.Language.relation.Goals as goal

pub returns-clause-relation : goal.returns-clause-relation
returns-clause-relation c = rw (← c.self.view_is) (sym (relation-at c.self.inside.relations.entries c.args.i c.index.result.now c.index.ensures))

pub returns-clause-over : goal.returns-clause-over
returns-clause-over c =
    let known = rw (← c.self.view_is) at c.requires.known in
    rw (← c.self.view_is) (subst (IsRelationOver c.self.inside.domain) (relation-at c.self.inside.relations.entries c.args.i c.index.result.now c.index.ensures) (IsRelationOver-relation_of _ c.args.i c.self.invariant.0 known))
