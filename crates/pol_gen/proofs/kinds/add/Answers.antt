use Rattle.std.proofs.Common.{◌/◌, ◌∙◌, length}
use Rattle.pol_base.proofs.LookupLemmas.{absent_name}
use Rattle.pol_relation.specs.Relations.{names_of, tuples_in}
use Rattle.pol_gen.proofs.RowLemmas.{relation_of_tuples}
use Rattle.pol_gen.proofs.kinds.add.Goals as goal

pub add_relation-requires-clause-new_name : goal.add_relation-requires-clause-new_name
add_relation-requires-clause-new_name c = absent_name (names_of c.args.lang.now) c.args.name.now c.requires.new_name

pub returns : goal.returns
returns c =
    let made = c.in_ok-relation.ensures in
    let tuples = tuples_in c.args.arity (length c.args.rows.now / c.args.arity) c.args.rows.now in
    let same = relation_of_tuples c.in_ok-relation.relation c.args.lang.now.domain c.args.arity tuples (made.domain ∙ c.domain.ensures.domain) made.arity made.members made.relation c.requires.ascending in
    record { ok = rw (← same) c.add_relation.ensures.ok }
