use Rattle.std.proofs.Common.{List, ℕ, length, arith, sum, ◌<◌, ◌≤◌}
use Rattle.pol_base.proofs.MaskLemmas.{masks_more}
use Rattle.pol_csp.specs.Narrowing.{IsElse}
use Rattle.pol_csp.specs.Searching.{FollowFrom}
use Rattle.pol_csp.proofs.Narrowing.{narrows_for, narrows_trans, rejects_after}
use Rattle.pol_csp.proofs.Searching.{follow_narrows, follow_rejects, wanted_else}
use Rattle.pol_csp.proofs.search.exclude.Goals as goal

pub returns-then-not-drop_value-clause-wiped : goal.returns-then-not-drop_value-clause-wiped
returns-then-not-drop_value-clause-wiped g c =
    let lang = c.args.task.now.lang.now in
    let W : List ℕ → Type 0 = g.C.Conditions.wanted c.args.task.now.conditions.now lang in
    let start = c.args.masks.now in
    let cell = c.args.cell in
    let v = c.args.value in
    let else_at = wanted_else W start cell v c.requires.cell c.requires.value c.requires.failed in
    λ xs w wanted. c.if-not-drop_value.ensures.wiped xs w (else_at xs w wanted)

pub revise_last-requires-clause-masks : goal.revise_last-requires-clause-masks
revise_last-requires-clause-masks g c =
    let d = c.args.task.now.lang.now.domain in
    masks_more d 5 c.drop_value.new.masks (omega (arith, c.size-size.ensures.within.few, c.domain.ensures.domain))
    (c.if-not-drop_value.ensures.narrows.masks d c.requires.masks)

pub revise_last-requires-clause-fits : goal.revise_last-requires-clause-fits
revise_last-requires-clause-fits g c =
    rw (c.requires.same, c.if-not-drop_value.ensures.narrows.long) c.requires.follow.fits

pub returns-then-not-kept-clause-wiped : goal.returns-then-not-kept-clause-wiped
returns-then-not-kept-clause-wiped g c =
    let lang = c.args.task.now.lang.now in
    let W : List ℕ → Type 0 = g.C.Conditions.wanted c.args.task.now.conditions.now lang in
    let start = c.args.masks.now in
    let pool = c.args.pool.now in
    let cell = c.args.cell in
    let v = c.args.value in
    let left = c.drop_value.new.masks in
    let else_at = wanted_else W start cell v c.requires.cell c.requires.value c.requires.failed in
    let dropped = narrows_for (IsElse cell v) W start left else_at c.if-not-drop_value.ensures.narrows in
    let follow : FollowFrom W lang (length left) pool = rw dropped.long c.requires.follow in
    rejects_after W start left dropped (follow_rejects W lang (length left) pool left follow
    (rw c.requires.same at (rw c.if-not-kept.true at c.in_ok-kept.ensures.wiped)))

pub returns-clause-narrows : goal.returns-clause-narrows
returns-clause-narrows g c =
    let lang = c.args.task.now.lang.now in
    let W : List ℕ → Type 0 = g.C.Conditions.wanted c.args.task.now.conditions.now lang in
    let start = c.args.masks.now in
    let pool = c.args.pool.now in
    let cell = c.args.cell in
    let v = c.args.value in
    let left = c.drop_value.new.masks in
    let else_at = wanted_else W start cell v c.requires.cell c.requires.value c.requires.failed in
    let dropped = narrows_for (IsElse cell v) W start left else_at c.if-not-drop_value.ensures.narrows in
    let follow : FollowFrom W lang (length left) pool = rw dropped.long c.requires.follow in
    let next = c.revise_last.new.masks in
    let rest = follow_narrows W lang (length left) pool left next follow
    (rw c.requires.same at (rw c.if-not-kept.false at c.in_ok-kept.ensures.narrows)) in
    narrows_trans W start left next dropped rest

pub returns-clause-falls : goal.returns-clause-falls
returns-clause-falls g c =
    let start = c.args.masks.now in
    let left = c.drop_value.new.masks in
    let next = c.revise_last.new.masks in
    let falls : sum left < sum start = c.if-not-drop_value.ensures.falls c.requires.value in
    let lower : sum next ≤ sum left = (rw c.if-not-kept.false at c.in_ok-kept.ensures.narrows).lower in
    omega (arith, falls, lower)
