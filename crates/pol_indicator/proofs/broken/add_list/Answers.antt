use Rattle.std.proofs.Common.{◌≡◌, length, take, arith, ap, ◌∙◌}
use Rattle.std.proofs.lemmas.List.{length_push}
use Rattle.std.proofs.lemmas.Result.{on_ok_weaker}
use Rattle.pol_relation.specs.Relations.{relation_of}
use Rattle.pol_optable.specs.Breaks.{rows_at}
use Rattle.pol_indicator.specs.Indicators.{scope_of}
use Rattle.pol_indicator.proofs.BrokenLemmas.{adds_none, adds_push}
use Rattle.pol_indicator.proofs.broken.add_list.Goals as goal

pub scope_at-scope-requires : goal.scope_at-scope-requires
scope_at-scope-requires g c = (
  omega (arith, c.requires.few_arguments),
  (c.requires.few_arguments, (rw c.relation-r.ensures.over.same_domain c.requires.few_cells, rw (← c.relation-r.ensures.relation) at c.requires.rows.below)),
)

pub returns : goal.returns
returns g c =
    let lang = c.args.lang.now in
    let r = relation_of lang c.args.relation in
    let scope : take c.arity.result c.scope_at-scope.result ≡ scope_of lang.domain r.arity (rows_at r c.args.numbers.now) =
    rw (c.arity.ensures.arity, ← c.relation-r.ensures.relation, ← c.relation-r.ensures.over.same_domain) c.scope_at-scope.ensures.scope in
    record {
      more = on_ok_weaker c.add.result (λ is. ap length is ∙ length_push c.args.pool.now _) c.add.ensures.ok;
      added = on_ok_weaker c.add.result (λ is. adds_push lang g.row.K c.args.relation c.args.numbers.now _ c.args.pool.now c.args.pool.now c.add.new.self c.requires.known c.requires.rows scope is (adds_none lang g.row.K c.args.pool.now)) c.add.ensures.ok;
    }
