use Rattle.std.proofs.Common.{refl, Bool, true, false}
use Rattle.std.specs.Bool.{OnFalse}
use Rattle.std.specs.Prelude.{IsTrue}
use Rattle.pol_optable.specs.Operations.{IsPolymorphism}
use Rattle.pol_indicator.proofs.BrokenLemmas.{adds_trans, kept_around}
use Rattle.pol_indicator.proofs.broken.add_broken.Goals as goal

pub returns-then-earlier_kept-clause-added : goal.returns-then-earlier_kept-clause-added
returns-then-earlier_kept-clause-added g c =
    let lang = c.args.rows.now in
    let one = adds_trans lang g.row.K c.args.pool.now c.add_part.new.pool c.add_relations.new.pool c.in_ok-behind_kept.ensures.added c.in_ok-later_kept.ensures.added in
    let two = adds_trans lang g.row.K c.args.pool.now c.add_relations.new.pool c.add_relations-2.new.pool one c.in_ok-earlier_kept.ensures.added in
    adds_trans lang g.row.K c.args.pool.now c.add_relations-2.new.pool c.add_part-2.new.pool two c.in_ok-before_kept.ensures.added

pub returns-else-earlier_kept-clause-added : goal.returns-else-earlier_kept-clause-added
returns-else-earlier_kept-clause-added g c =
    let lang = c.args.rows.now in
    let one = adds_trans lang g.row.K c.args.pool.now c.add_part.new.pool c.add_relations.new.pool c.in_ok-behind_kept.ensures.added c.in_ok-later_kept.ensures.added in
    let two = adds_trans lang g.row.K c.args.pool.now c.add_relations.new.pool c.add_relations-2.new.pool one c.in_ok-earlier_kept.ensures.added in
    adds_trans lang g.row.K c.args.pool.now c.add_relations-2.new.pool c.add_part-2.new.pool two c.in_ok-before_kept.ensures.added

not_refuted : (b : Bool) (P : Type 0) → OnFalse b (¬ P) → P → IsTrue b
not_refuted true P non holds = refl
not_refuted false P non holds = absurd (non holds)

pub returns-then-earlier_kept-clause-preserves : goal.returns-then-earlier_kept-clause-preserves
returns-then-earlier_kept-clause-preserves g c =
    let f = c.args.table.now in
    let lang = c.args.rows.now in
    let all = c.if-earlier_kept.true in (
      λ held. kept_around f lang c.min-turn.result c.args.place.now.row c.len-2.result c.len-2.ensures.language c.domain-table.ensures.table.is_operation.some_arguments c.len-2.ensures.relations
          (c.in_ok-behind_kept.ensures.kept all.0) (c.in_ok-later_kept.ensures.kept all.1) (c.in_ok-earlier_kept.ensures.kept all.2) (c.in_ok-before_kept.ensures.kept held),
      not_refuted c.in_ok-before_kept.before_kept (IsPolymorphism f lang) c.in_ok-before_kept.ensures.broken,
    )
