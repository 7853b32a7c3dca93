use Rattle.std.proofs.Common.{List, ℕ, length, arith}
use Rattle.pol_base.proofs.MaskLemmas.{masks_more}
use Rattle.pol_csp.proofs.Narrowing.{rejects_after}
use Rattle.pol_csp.proofs.Searching.{follow_narrows, follow_rejects}
use Rattle.pol_csp.proofs.search.narrow.Goals as goal

pub propagate-requires-clause-masks : goal.propagate-requires-clause-masks
propagate-requires-clause-masks g c =
    masks_more c.args.task.now.lang.now.domain 5 c.args.masks.now
    (omega (arith, c.size-size.ensures.within.few, c.domain.ensures.domain)) c.requires.masks

pub returns-then-not-kept-clause-wiped : goal.returns-then-not-kept-clause-wiped
returns-then-not-kept-clause-wiped g c =
    let lang = c.args.task.now.lang.now in
    let W : List ℕ → Type 0 = g.C.Conditions.wanted c.args.task.now.conditions.now lang in
    let start = c.args.masks.now in
    let pool = c.args.pool.now in
    let now = c.propagate.new.masks in
    follow_rejects W lang (length start) pool start c.requires.follow
    (rw c.requires.same at (rw c.if-not-kept.true at c.in_ok-kept.ensures.wiped))

pub fails-requires-clause-masks : goal.fails-requires-clause-masks
fails-requires-clause-masks g c =
    (rw c.if-not-kept.false at c.in_ok-kept.ensures.narrows).masks c.args.task.now.lang.now.domain c.requires.masks

pub returns-then-fails-clause-wiped : goal.returns-then-fails-clause-wiped
returns-then-fails-clause-wiped g c =
    let lang = c.args.task.now.lang.now in
    let W : List ℕ → Type 0 = g.C.Conditions.wanted c.args.task.now.conditions.now lang in
    let start = c.args.masks.now in
    let pool = c.args.pool.now in
    let now = c.propagate.new.masks in
    let narrows = follow_narrows W lang (length start) pool start now c.requires.follow
    (rw c.requires.same at (rw c.if-not-kept.false at c.in_ok-kept.ensures.narrows)) in
    rejects_after W start now narrows (c.fails.ensures.none c.if-fails.true)

pub returns-clause-narrows : goal.returns-clause-narrows
returns-clause-narrows g c =
    let lang = c.args.task.now.lang.now in
    let W : List ℕ → Type 0 = g.C.Conditions.wanted c.args.task.now.conditions.now lang in
    let start = c.args.masks.now in
    let pool = c.args.pool.now in
    let now = c.propagate.new.masks in
    follow_narrows W lang (length start) pool start now c.requires.follow
    (rw c.requires.same at (rw c.if-not-kept.false at c.in_ok-kept.ensures.narrows))
