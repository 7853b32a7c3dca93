use Rattle.std.proofs.Common.{List, ℕ, get_or, set, ◌∙◌, ◌≡◌, length, arith, ◌<◌, ◌≤◌, ◌^◌, ap, sum, length-set}
use Rattle.std.proofs.lemmas.Result.{IfOk-weaker}
use Rattle.pol_base.proofs.MaskLemmas.{masks_more}
use Rattle.pol_csp.specs.Narrowing.{Narrows}
use Rattle.pol_csp.specs.Searching.{FollowFrom, Leads}
use Rattle.pol_csp.proofs.Narrowing.{narrows_trans}
use Rattle.pol_csp.proofs.Searching.{single_narrows, set_value, leads_kept, leads_trans, since_found, found_kept, found_narrows}
use Rattle.pol_csp.proofs.search.settle.Goals as goal

pub lowest_value-value-requires : goal.lowest_value-value-requires
lowest_value-value-requires g c =
    let d = c.args.task.now.lang.now.domain in
    let now = c.values.masks in
    let narrows = c.values.invariant.narrows in
    let fits : c.args.cell < length now = omega (arith, c.requires.cell, narrows.long) in
    record {
      mask = masks_more d 5 now
          (omega (arith, c.size-size.ensures.within.few, c.domain.ensures.domain)) (narrows.masks d c.requires.masks) c.args.cell 0 fits;
    }

pub returns-then-as_slice-cell-clause-leads : goal.returns-then-as_slice-cell-clause-leads
returns-then-as_slice-cell-clause-leads g c =
    let lang = c.args.task.now.lang.now in
    let W : List ℕ → Type 0 = g.C.Conditions.wanted c.args.task.now.conditions.now lang in
    let start = c.args.masks.now in
    let now = c.values.masks in
    let cell = c.args.cell in
    let v = c.lowest_value-value.result in
    let narrows = c.values.invariant.narrows in
    let fits : cell < length now = omega (arith, c.requires.cell, narrows.long) in
    let next = c.fix.new.masks in
    IfOk-weaker c.fix.result _ (λ best. Leads W start next)
    (λ best later. leads_trans W start now next (leads_kept W start now narrows) later) c.fix.ensures.leads

pub find-requires-clause-masks : goal.find-requires-clause-masks
find-requires-clause-masks g c =
    let lang = c.args.task.now.lang.now in
    let W : List ℕ → Type 0 = g.C.Conditions.wanted c.args.task.now.conditions.now lang in
    let start = c.args.masks.now in
    let now = c.values.masks in
    let cell = c.args.cell in
    let v = c.lowest_value-value.result in
    let narrows = c.values.invariant.narrows in
    let fits : cell < length now = omega (arith, c.requires.cell, narrows.long) in
    let one = single_narrows now cell v fits c.lowest_value-value.ensures.has in
    let is : c.deref_mut.result.now ≡ set now cell (2 ^ v) =
    c.deref_mut.ensures.value ∙ c.in_ok-branch.ensures.branch in
    rw is (one.masks lang.domain (narrows.masks lang.domain c.requires.masks))

pub fix-requires-in-Some-clause-found : goal.fix-requires-in-Some-clause-found
fix-requires-in-Some-clause-found g c =
    let lang = c.args.task.now.lang.now in
    let W : List ℕ → Type 0 = g.C.Conditions.wanted c.args.task.now.conditions.now lang in
    let start = c.args.masks.now in
    let now = c.values.masks in
    let cell = c.args.cell in
    let v = c.lowest_value-value.result in
    let narrows = c.values.invariant.narrows in
    let fits : cell < length now = omega (arith, c.requires.cell, narrows.long) in
    let one = single_narrows now cell v fits c.lowest_value-value.ensures.has in
    let is : c.deref_mut.result.now ≡ set now cell (2 ^ v) =
    c.deref_mut.ensures.value ∙ c.in_ok-branch.ensures.branch in
    let found = rw is at (rw c.in-Some.is at c.in_ok-answer.ensures.found) in
    record { within = one.inside c.in-Some.better found.within; wanted = found.wanted }

pub fix-requires-in-Some-clause-least : goal.fix-requires-in-Some-clause-least
fix-requires-in-Some-clause-least g c u has =
    let lang = c.args.task.now.lang.now in
    let W : List ℕ → Type 0 = g.C.Conditions.wanted c.args.task.now.conditions.now lang in
    let start = c.args.masks.now in
    let now = c.values.masks in
    let cell = c.args.cell in
    let v = c.lowest_value-value.result in
    let narrows = c.values.invariant.narrows in
    let fits : cell < length now = omega (arith, c.requires.cell, narrows.long) in
    let is : c.deref_mut.result.now ≡ set now cell (2 ^ v) =
    c.deref_mut.ensures.value ∙ c.in_ok-branch.ensures.branch in
    let found = rw is at (rw c.in-Some.is at c.in_ok-answer.ensures.found) in
    let here : get_or c.in-Some.better cell 0 ≡ v = set_value now c.in-Some.better cell v fits found.within in
    let le : v ≤ u = c.lowest_value-value.ensures.least u has in
    omega (arith, here, le)

pub returns-in-Some-clause-leads : goal.returns-in-Some-clause-leads
returns-in-Some-clause-leads g c =
    let lang = c.args.task.now.lang.now in
    let W : List ℕ → Type 0 = g.C.Conditions.wanted c.args.task.now.conditions.now lang in
    let start = c.args.masks.now in
    let now = c.values.masks in
    let cell = c.args.cell in
    let v = c.lowest_value-value.result in
    let narrows = c.values.invariant.narrows in
    let fits : cell < length now = omega (arith, c.requires.cell, narrows.long) in
    let next = c.fix-in-Some.new.masks in
    IfOk-weaker c.fix-in-Some.result _ (λ best. Leads W start next)
    (λ best later. leads_trans W start now next (leads_kept W start now narrows) later) c.fix-in-Some.ensures.leads

pub exclude-requires-clause-masks : goal.exclude-requires-clause-masks
exclude-requires-clause-masks g c =
    c.values.invariant.narrows.masks c.args.task.now.lang.now.domain c.requires.masks

pub exclude-requires-clause-follow : goal.exclude-requires-clause-follow
exclude-requires-clause-follow g c =
    let lang = c.args.task.now.lang.now in
    let W : List ℕ → Type 0 = g.C.Conditions.wanted c.args.task.now.conditions.now lang in
    let start = c.args.masks.now in
    let now = c.values.masks in
    let cell = c.args.cell in
    let v = c.lowest_value-value.result in
    let narrows = c.values.invariant.narrows in
    let fits : cell < length now = omega (arith, c.requires.cell, narrows.long) in
    let is : c.deref_mut.result.now ≡ set now cell (2 ^ v) =
    c.deref_mut.ensures.value ∙ c.in_ok-branch.ensures.branch in
    let long : length c.deref_mut.result.now ≡ length now = ap length is ∙ length-set now cell (2 ^ v) in
    rw long at c.in_ok-answer.ensures.follow

pub exclude-requires-clause-failed : goal.exclude-requires-clause-failed
exclude-requires-clause-failed g c =
    let now = c.values.masks in
    let cell = c.args.cell in
    let v = c.lowest_value-value.result in
    let is : c.deref_mut.result.now ≡ set now cell (2 ^ v) =
    c.deref_mut.ensures.value ∙ c.in_ok-branch.ensures.branch in
    rw is at (rw c.in_default.is at c.in_ok-answer.ensures.found)

pub propagate_above-requires-clause-masks : goal.propagate_above-requires-clause-masks
propagate_above-requires-clause-masks g c =
    let lang = c.args.task.now.lang.now in
    let W : List ℕ → Type 0 = g.C.Conditions.wanted c.args.task.now.conditions.now lang in
    let start = c.args.masks.now in
    let now = c.values.masks in
    let left = c.exclude.new.masks in
    let best = c.values.found in
    let kept = c.in_ok-exclude.field-0 in
    let dropped = since_found (Narrows W now left) W now best kept c.values.invariant.found
    c.in_ok-exclude.ensures.narrows c.in_ok-exclude.ensures.wiped in
    masks_more lang.domain 5 left (omega (arith, c.size-size.ensures.within.few, c.domain.ensures.domain))
    (dropped.masks lang.domain (c.values.invariant.narrows.masks lang.domain c.requires.masks))

pub propagate_above-requires-clause-fits : goal.propagate_above-requires-clause-fits
propagate_above-requires-clause-fits g c =
    let lang = c.args.task.now.lang.now in
    let W : List ℕ → Type 0 = g.C.Conditions.wanted c.args.task.now.conditions.now lang in
    let start = c.args.masks.now in
    let now = c.values.masks in
    let cell = c.args.cell in
    let v = c.lowest_value-value.result in
    let narrows = c.values.invariant.narrows in
    let fits : cell < length now = omega (arith, c.requires.cell, narrows.long) in
    let is : c.deref_mut.result.now ≡ set now cell (2 ^ v) =
    c.deref_mut.ensures.value ∙ c.in_ok-branch.ensures.branch in
    let long : length c.deref_mut.result.now ≡ length start =
    ap length is ∙ length-set now cell (2 ^ v) ∙ narrows.long in
    let left = c.exclude.new.masks in
    let best = c.values.found in
    let kept = c.in_ok-exclude.field-0 in
    let dropped = since_found (Narrows W now left) W now best kept c.values.invariant.found
    c.in_ok-exclude.ensures.narrows c.in_ok-exclude.ensures.wiped in
    let follow : FollowFrom W lang (length start) c.find.new.state.pool = rw long at c.in_ok-answer.ensures.follow in
    rw (c.requires.same, dropped.long, narrows.long) follow.fits

pub values-smaller : goal.values-smaller
values-smaller g c =
    let lang = c.args.task.now.lang.now in
    let W : List ℕ → Type 0 = g.C.Conditions.wanted c.args.task.now.conditions.now lang in
    let start = c.args.masks.now in
    let now = c.values.masks in
    let cell = c.args.cell in
    let v = c.lowest_value-value.result in
    let narrows = c.values.invariant.narrows in
    let fits : cell < length now = omega (arith, c.requires.cell, narrows.long) in
    let is : c.deref_mut.result.now ≡ set now cell (2 ^ v) =
    c.deref_mut.ensures.value ∙ c.in_ok-branch.ensures.branch in
    let long : length c.deref_mut.result.now ≡ length start =
    ap length is ∙ length-set now cell (2 ^ v) ∙ narrows.long in
    let left = c.exclude.new.masks in
    let next = c.propagate_above.new.masks in
    let best = c.values.found in
    let kept = c.in_ok-exclude.field-0 in
    let dropped = since_found (Narrows W now left) W now best kept c.values.invariant.found
    c.in_ok-exclude.ensures.narrows c.in_ok-exclude.ensures.wiped in
    let found = found_kept W now left best dropped c.values.invariant.found in
    let follow : FollowFrom W lang (length start) c.find.new.state.pool = rw long at c.in_ok-answer.ensures.follow in
    let rest = found_narrows W lang (length start) c.find.new.state.pool left next best
    c.in_ok-propagate_above.field-0 follow found
    (rw c.requires.same at c.in_ok-propagate_above.ensures.narrows)
    (rw c.requires.same at c.in_ok-propagate_above.ensures.wiped) in
    let falls : sum left < sum now = since_found (sum left < sum now) W now best kept c.values.invariant.found
    c.in_ok-exclude.ensures.falls c.in_ok-exclude.ensures.wiped in
    let lower : sum next ≤ sum left = rest.lower in
    omega (arith, falls, lower)

pub values-preserved : goal.values-preserved
values-preserved g c =
    let lang = c.args.task.now.lang.now in
    let W : List ℕ → Type 0 = g.C.Conditions.wanted c.args.task.now.conditions.now lang in
    let start = c.args.masks.now in
    let now = c.values.masks in
    let cell = c.args.cell in
    let v = c.lowest_value-value.result in
    let narrows = c.values.invariant.narrows in
    let fits : cell < length now = omega (arith, c.requires.cell, narrows.long) in
    let is : c.deref_mut.result.now ≡ set now cell (2 ^ v) =
    c.deref_mut.ensures.value ∙ c.in_ok-branch.ensures.branch in
    let long : length c.deref_mut.result.now ≡ length start =
    ap length is ∙ length-set now cell (2 ^ v) ∙ narrows.long in
    let left = c.exclude.new.masks in
    let next = c.propagate_above.new.masks in
    let best = c.values.found in
    let kept = c.in_ok-exclude.field-0 in
    let dropped = since_found (Narrows W now left) W now best kept c.values.invariant.found
    c.in_ok-exclude.ensures.narrows c.in_ok-exclude.ensures.wiped in
    let found = found_kept W now left best dropped c.values.invariant.found in
    let follow : FollowFrom W lang (length start) c.find.new.state.pool = rw long at c.in_ok-answer.ensures.follow in
    let rest = found_narrows W lang (length start) c.find.new.state.pool left next best
    c.in_ok-propagate_above.field-0 follow found
    (rw c.requires.same at c.in_ok-propagate_above.ensures.narrows)
    (rw c.requires.same at c.in_ok-propagate_above.ensures.wiped) in
    record {
      follow = follow;
      narrows = narrows_trans W start now next narrows (narrows_trans W now left next dropped rest);
      found = found_kept W left next best rest found;
    }
