use Rattle.std.proofs.Common.{List, ℕ, get_or, set, ◌∙◌, ◌≡◌, length, arith, ◌<◌, ◌≤◌, ◌^◌, ap, sum, length-set}
use Rattle.std.proofs.lemmas.Result.{IfOk-weaker}
use Rattle.pol_base.proofs.MaskLemmas.{masks_more}
use Rattle.pol_csp.specs.Searching.{AnswersSome}
use Rattle.pol_csp.proofs.Narrowing.{narrows_trans, rejects_after, set_falls, single_less}
use Rattle.pol_csp.proofs.Searching.{single_narrows, some_before}
use Rattle.pol_csp.proofs.search.+find.Goals as goal

pub narrow-requires-clause-masks : goal.narrow-requires-clause-masks
narrow-requires-clause-masks g t c =
    c.branches.invariant.narrows.masks c.args.task.now.lang.now.domain c.requires.masks

pub returns-then-not-kept-clause-found : goal.returns-then-not-kept-clause-found
returns-then-not-kept-clause-found g t c =
    let lang = c.args.task.now.lang.now in
    let W : List ℕ → Type 0 = g.C.Conditions.wanted c.args.task.now.conditions.now lang in
    let start = c.args.masks.now in
    rejects_after W start c.branches.masks c.branches.invariant.narrows
    (rw c.if-not-kept.true at c.in_ok-kept.ensures.wiped)

pub open_cell-requires : goal.open_cell-requires
open_cell-requires g t c =
    let d = c.args.task.now.lang.now.domain in
    let narrows = rw c.if-not-kept.false at c.in_ok-kept.ensures.narrows in
    let now = narrows.masks d (c.branches.invariant.narrows.masks d c.requires.masks) in
    let few : d ≤ 5 = omega (arith, c.size-size.ensures.within.few, c.domain.ensures.domain) in
    record { masks = masks_more d 5 c.narrow.new.masks few now }

pub leaf-requires-clause-masks : goal.leaf-requires-clause-masks
leaf-requires-clause-masks g t c =
    let d = c.args.task.now.lang.now.domain in
    let narrows = rw c.if-not-kept.false at c.in_ok-kept.ensures.narrows in
    let now = narrows.masks d (c.branches.invariant.narrows.masks d c.requires.masks) in
    now

pub returns-in-None-clause-found : goal.returns-in-None-clause-found
returns-in-None-clause-found g t c =
    let lang = c.args.task.now.lang.now in
    let W : List ℕ → Type 0 = g.C.Conditions.wanted c.args.task.now.conditions.now lang in
    let start = c.args.masks.now in
    let now = c.narrow.new.masks in
    let narrows = narrows_trans W start c.branches.masks now c.branches.invariant.narrows
    (rw c.if-not-kept.false at c.in_ok-kept.ensures.narrows) in
    IfOk-weaker c.leaf.result _ (λ answer. AnswersSome W start answer)
    (λ answer a. some_before W start now answer narrows a) c.leaf.ensures.found

pub lowest_value-value-requires : goal.lowest_value-value-requires
lowest_value-value-requires g t c =
    let d = c.args.task.now.lang.now.domain in
    let narrows = rw c.if-not-kept.false at c.in_ok-kept.ensures.narrows in
    let now = narrows.masks d (c.branches.invariant.narrows.masks d c.requires.masks) in
    record {
      mask = masks_more d 5 c.narrow.new.masks
          (omega (arith, c.size-size.ensures.within.few, c.domain.ensures.domain)) now c.in-Some.cell 0 c.in-Some.ensures.cell;
    }

pub find-requires : goal.find-requires
find-requires g t c κs within =
    let lang = c.args.task.now.lang.now in
    let W : List ℕ → Type 0 = g.C.Conditions.wanted c.args.task.now.conditions.now lang in
    let start = c.args.masks.now in
    let now = c.narrow.new.masks in
    let narrows = narrows_trans W start c.branches.masks now c.branches.invariant.narrows
    (rw c.if-not-kept.false at c.in_ok-kept.ensures.narrows) in
    let cell = c.in-Some.cell in
    let v = c.lowest_value-value.result in
    let one = single_narrows now cell v c.in-Some.ensures.cell c.lowest_value-value.ensures.has in
    let is : c.deref_mut.result.now ≡ set now cell (2 ^ v) =
    c.deref_mut.ensures.value ∙ c.in_ok-branch.ensures.branch in
    let long : length c.deref_mut.result.now ≡ length start =
    ap length is ∙ length-set now cell (2 ^ v) ∙ narrows.long in
    let many = c.in-Some.ensures.open v in
    let less = set_falls now cell (2 ^ v) c.in-Some.ensures.cell
    (single_less (get_or now cell 0) v c.lowest_value-value.ensures.has many) in
    let falls : sum c.deref_mut.result.now < sum start = rw is (omega (arith, less, narrows.lower)) in (
      omega (arith, c.decreases, falls),
      (
        within,
        (
          c.requires.same,
          (
            omega (arith, long, c.requires.few),
            (
              rw long c.requires.taken,
              (
                rw is (one.masks lang.domain (narrows.masks lang.domain c.requires.masks)),
                rw long c.branches.invariant.follow,
              ),
            ),
          ),
        ),
      ),
    )

pub returns-in-Some-answer-clause-found : goal.returns-in-Some-answer-clause-found
returns-in-Some-answer-clause-found g t c =
    let lang = c.args.task.now.lang.now in
    let W : List ℕ → Type 0 = g.C.Conditions.wanted c.args.task.now.conditions.now lang in
    let start = c.args.masks.now in
    let now = c.narrow.new.masks in
    let narrows = narrows_trans W start c.branches.masks now c.branches.invariant.narrows
    (rw c.if-not-kept.false at c.in_ok-kept.ensures.narrows) in
    let cell = c.in-Some.cell in
    let v = c.lowest_value-value.result in
    let one = single_narrows now cell v c.in-Some.ensures.cell c.lowest_value-value.ensures.has in
    let is : c.deref_mut.result.now ≡ set now cell (2 ^ v) =
    c.deref_mut.ensures.value ∙ c.in_ok-branch.ensures.branch in
    let values = c.in-Some-answer.values in
    let found = rw is at (rw c.in-Some-answer.is at c.in_ok-answer.ensures.found) in
    record { within = narrows.inside values (one.inside values found.within); wanted = found.wanted }

pub exclude-requires-clause-masks : goal.exclude-requires-clause-masks
exclude-requires-clause-masks g t c =
    let d = c.args.task.now.lang.now.domain in
    let narrows = rw c.if-not-kept.false at c.in_ok-kept.ensures.narrows in
    let now = narrows.masks d (c.branches.invariant.narrows.masks d c.requires.masks) in
    now

pub exclude-requires-clause-follow : goal.exclude-requires-clause-follow
exclude-requires-clause-follow g t c =
    let lang = c.args.task.now.lang.now in
    let W : List ℕ → Type 0 = g.C.Conditions.wanted c.args.task.now.conditions.now lang in
    let start = c.args.masks.now in
    let now = c.narrow.new.masks in
    let narrows = narrows_trans W start c.branches.masks now c.branches.invariant.narrows
    (rw c.if-not-kept.false at c.in_ok-kept.ensures.narrows) in
    let cell = c.in-Some.cell in
    let v = c.lowest_value-value.result in
    let is : c.deref_mut.result.now ≡ set now cell (2 ^ v) =
    c.deref_mut.ensures.value ∙ c.in_ok-branch.ensures.branch in
    let long : length c.deref_mut.result.now ≡ length now = ap length is ∙ length-set now cell (2 ^ v) in
    rw long at c.in_ok-answer.ensures.follow

pub exclude-requires-clause-failed : goal.exclude-requires-clause-failed
exclude-requires-clause-failed g t c =
    let now = c.narrow.new.masks in
    let cell = c.in-Some.cell in
    let v = c.lowest_value-value.result in
    let is : c.deref_mut.result.now ≡ set now cell (2 ^ v) =
    c.deref_mut.ensures.value ∙ c.in_ok-branch.ensures.branch in
    rw is at (rw c.in_default.is at c.in_ok-answer.ensures.found)

pub returns-then-not-open-clause-found : goal.returns-then-not-open-clause-found
returns-then-not-open-clause-found g t c =
    let lang = c.args.task.now.lang.now in
    let W : List ℕ → Type 0 = g.C.Conditions.wanted c.args.task.now.conditions.now lang in
    let start = c.args.masks.now in
    let now = c.narrow.new.masks in
    let narrows = narrows_trans W start c.branches.masks now c.branches.invariant.narrows
    (rw c.if-not-kept.false at c.in_ok-kept.ensures.narrows) in
    rejects_after W start now narrows (rw c.if-not-open.true at c.in_ok-open.ensures.wiped)

pub branches-smaller : goal.branches-smaller
branches-smaller g t c =
    let lower = (rw c.if-not-kept.false at c.in_ok-kept.ensures.narrows).lower in
    let falls = rw c.if-not-open.false at c.in_ok-open.ensures.falls in
    omega (arith, lower, falls)

pub branches-preserved : goal.branches-preserved
branches-preserved g t c =
    let lang = c.args.task.now.lang.now in
    let W : List ℕ → Type 0 = g.C.Conditions.wanted c.args.task.now.conditions.now lang in
    let start = c.args.masks.now in
    let now = c.narrow.new.masks in
    let narrows = narrows_trans W start c.branches.masks now c.branches.invariant.narrows
    (rw c.if-not-kept.false at c.in_ok-kept.ensures.narrows) in
    let cell = c.in-Some.cell in
    let v = c.lowest_value-value.result in
    let is : c.deref_mut.result.now ≡ set now cell (2 ^ v) =
    c.deref_mut.ensures.value ∙ c.in_ok-branch.ensures.branch in
    let long : length c.deref_mut.result.now ≡ length start =
    ap length is ∙ length-set now cell (2 ^ v) ∙ narrows.long in
    record {
      follow = rw long at c.in_ok-answer.ensures.follow;
      narrows = narrows_trans W start now c.exclude.new.masks narrows
          (rw c.if-not-open.false at c.in_ok-open.ensures.narrows);
    }
