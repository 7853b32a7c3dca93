use Rattle.std.proofs.Common.{List, ℕ, length, ap, ◌∙◌, subst}
use Rattle.std.specs.Prelude.{IfOk, IsTrue, ◌↔◌}
use Rattle.std.proofs.lemmas.Result.{IfOk-weaker}
use Rattle.pol_optable.specs.Operations.{IsPolymorphism, operation_of}
use Rattle.pol_optable.specs.ClassLines.{IsTable}
use Rattle.pol_csp.specs.Searching.{FollowFrom}
use Rattle.pol_indicator.specs.Closing.{AddsListed}
use Rattle.pol_indicator.proofs.ClosedLemmas.{followed, wanted_where_kept}
use Rattle.pol_indicator.proofs.closed.ClosedConditions.more.Goals as goal

pub returns-clause-follow : goal.returns-clause-follow
returns-clause-follow g c =
    let lang = c.args.lang.now in
    let n = length c.args.values.now in
    let W : List ℕ → Type 0 = λ cells. IsTable (g.I.Identity.satisfies c.args.self.now.identity.now) g.row.K lang cells in
    let added = subst (λ l. IfOk c.add_broken.result (λ _. AddsListed l g.row.K c.args.pool.now c.add_broken.new.pool)) c.requires.taken.1 c.add_broken.ensures.added in
    IfOk-weaker c.add_broken.result (λ _. AddsListed lang g.row.K c.args.pool.now c.add_broken.new.pool) (λ _. FollowFrom W lang n c.add_broken.new.pool)
    (λ _ listed. followed lang g.row.K n W c.args.pool.now c.add_broken.new.pool c.domain.ensures.language c.requires.taken.0.all_cells (λ cells table. table.preserves) c.requires.follow listed) added

pub returns-clause-wanted : goal.returns-clause-wanted
returns-clause-wanted g c =
    let lang = c.args.lang.now in
    let cells = c.args.values.now in
    let made = rw c.in-Some.is at c.in_ok-table.ensures.made in
    let same = made ∙ ap (λ d. operation_of d g.row.K cells) c.domain.ensures.domain in
    let is = rw c.in-Some.is at c.in_ok-table.ensures.table in
    let holds = c.holds.ensures.satisfies.0 c.if-not-holds.false in
    let exact = subst (λ l. IfOk c.add_broken.result (λ held. IsTrue held ↔ IsPolymorphism c.in-Some.table l)) c.requires.taken.1 c.add_broken.ensures.preserves in
    IfOk-weaker c.add_broken.result (λ held. IsTrue held ↔ IsPolymorphism c.in-Some.table lang)
    (λ held. IsTrue held ↔ IsTable (g.I.Identity.satisfies c.args.self.now.identity.now) g.row.K lang cells)
    (λ held kept. wanted_where_kept (g.I.Identity.satisfies c.args.self.now.identity.now) g.row.K lang cells c.in-Some.table held same is.is_operation holds kept) exact
