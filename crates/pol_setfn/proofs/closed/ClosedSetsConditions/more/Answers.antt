use Rattle.std.proofs.Common.{◌≡◌, ℕ, List, length, Bool, false, ap, ◌∙◌, subst}
use Rattle.std.specs.Prelude.{◌↔◌, IfOk, IsTrue}
use Rattle.std.proofs.lemmas.Result.{IfOk-weaker}
use Rattle.pol_optable.specs.SetFunctions.{IsSetPolymorphism}
use Rattle.pol_csp.specs.Searching.{FollowFrom}
use Rattle.pol_setfn.specs.Sought.{IsIdempotent, IsSought}
use Rattle.pol_setfn.specs.Projected.{AddsProjected}
use Rattle.pol_setfn.proofs.ProjectedLemmas.{followed}
use Rattle.pol_setfn.proofs.ClosedLemmas.{sought_where_kept}
use Rattle.pol_setfn.proofs.closed.ClosedSetsConditions.more.Goals.{else-self-via-then-self+else-not-is_idempotent, else-self-via-else-self}
use Rattle.pol_setfn.proofs.closed.ClosedSetsConditions.more.Goals as goal

refuted : (b : Bool) → b ≡ false → ¬ IsTrue b
refuted b is_false is_true = cc

pub returns-clause-follow : goal.returns-clause-follow
returns-clause-follow c =
    let lang = c.args.lang.now in
    let n = length c.args.values.now in
    let W : List ℕ → Type 0 = λ cells. IsSought lang c.args.self.now.idempotent cells in
    let added = subst (λ l. IfOk c.add_broken.result (λ _. AddsProjected l c.args.pool.now c.add_broken.new.pool)) c.requires.taken.1 c.add_broken.ensures.added in
    IfOk-weaker c.add_broken.result (λ _. AddsProjected lang c.args.pool.now c.add_broken.new.pool) (λ _. FollowFrom W lang n c.add_broken.new.pool)
    (λ _ projected. followed lang n W c.args.pool.now c.add_broken.new.pool c.domain.ensures.language c.requires.taken.0 (λ cells sought. sought.table.preserves) c.requires.follow projected) added

pub returns-clause-wanted : goal.returns-clause-wanted
returns-clause-wanted c =
    let lang = c.args.lang.now in
    let cells = c.args.values.now in
    let idempotent = c.args.self.now.idempotent in
    let made = rw c.in-Some.is at c.in_ok-g.ensures.made in
    let same = made ∙ ap (λ d. record { domain = d; cells = cells }) c.domain.ensures.domain in
    let singles : IsTrue idempotent → IsIdempotent c.in-Some.g = elim c.else-self.branch [
      | else-self-via-then-self+else-not-is_idempotent w ↦ λ asked. w.is_idempotent.ensures.idempotent.0 w.if-not-is_idempotent.false
      | else-self-via-else-self w ↦ λ asked. absurd (refuted idempotent w.if-self.false asked)
    ] in
    let exact = subst (λ l. IfOk c.add_broken.result (λ held. IsTrue held ↔ IsSetPolymorphism c.in-Some.g l)) c.requires.taken.1 c.add_broken.ensures.preserves in
    IfOk-weaker c.add_broken.result (λ held. IsTrue held ↔ IsSetPolymorphism c.in-Some.g lang) (λ held. IsTrue held ↔ IsSought lang idempotent cells)
    (λ held kept. sought_where_kept lang idempotent cells c.in-Some.g held same (record { all_cells = c.requires.taken.0; below = c.requires.tuple.below }) singles kept) exact
