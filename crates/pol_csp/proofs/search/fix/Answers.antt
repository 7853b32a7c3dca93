use Rattle.std.proofs.Common.{List, ℕ, get_or, set, ◌∙◌, ◌≡◌, ◌^◌, ◌+◌, length, arith, ap, refl}
use Rattle.pol_base.specs.Masks.{IsMask}
use Rattle.pol_base.proofs.BitLemmas.{set_below}
use Rattle.pol_base.proofs.MaskLemmas.{masks_more}
use Rattle.pol_csp.proofs.Narrowing.{value_within}
use Rattle.pol_csp.proofs.Searching.{single_narrows, single_found, settled_inside, settled_set, leads_lowest, leads_kept, leads_trans, found_narrows, found_kept}
use Rattle.pol_csp.proofs.search.fix.Goals as goal

pub value_mask-requires : goal.value_mask-requires
value_mask-requires g c =
    let d = c.args.task.now.lang.now.domain in
    let start = c.args.masks.now in
    let small = masks_more d 5 start (omega (arith, c.size-size.ensures.within.few, c.domain.ensures.domain))
    c.requires.masks in
    let mask : IsMask 5 (get_or start c.args.cell 0) = small c.args.cell 0 c.requires.cell in
    let has = value_within start c.args.found c.args.cell c.requires.cell c.requires.found.within in
    let below = set_below 5 (get_or start c.args.cell 0) (get_or c.args.found c.args.cell 0) mask.below has in
    record { value = rw c.as_slice.ensures.items (omega (arith, below)) }

pub propagate_above-requires-clause-masks : goal.propagate_above-requires-clause-masks
propagate_above-requires-clause-masks g c =
    let d = c.args.task.now.lang.now.domain in
    let start = c.args.masks.now in
    let cell = c.args.cell in
    let v = get_or c.args.found cell 0 in
    let is : c.value_mask.result ≡ 2 ^ v = c.value_mask.ensures.mask ∙ ap (λ xs. 2 ^ get_or xs cell 0)
    c.as_slice.ensures.items in
    let one = single_narrows start cell v c.requires.cell
    (value_within start c.args.found cell c.requires.cell c.requires.found.within) in
    rw is (masks_more d 5 (set start cell (2 ^ v)) (omega
    (arith, c.size-size.ensures.within.few, c.domain.ensures.domain)) (one.masks d c.requires.masks))

pub returns-clause-leads : goal.returns-clause-leads
returns-clause-leads g c =
    let lang = c.args.task.now.lang.now in
    let W : List ℕ → Type 0 = g.C.Conditions.wanted c.args.task.now.conditions.now lang in
    let start = c.args.masks.now in
    let cell = c.args.cell in
    let best = c.args.found in
    let v = get_or best cell 0 in
    let single = set start cell (2 ^ v) in
    let next = c.propagate_above.new.masks in
    let is : c.value_mask.result ≡ 2 ^ v = c.value_mask.ensures.mask ∙ ap (λ xs. 2 ^ get_or xs cell 0)
    c.as_slice.ensures.items in
    let found = single_found W start best cell v c.requires.cell refl c.requires.found in
    let rest = found_narrows W lang (length start) c.args.state.now.pool single next best
    c.in_ok-propagate_above.field-0 c.requires.follow found
    (rw is at (rw c.requires.same at c.in_ok-propagate_above.ensures.narrows))
    (rw is at (rw c.requires.same at c.in_ok-propagate_above.ensures.wiped)) in
    let has = value_within start best cell c.requires.cell c.requires.found.within in
    leads_trans W start single next (leads_lowest W start cell v c.requires.settled c.requires.cell has
    c.requires.least) (leads_kept W single next rest)

pub returns-clause-settled : goal.returns-clause-settled
returns-clause-settled g c =
    let lang = c.args.task.now.lang.now in
    let W : List ℕ → Type 0 = g.C.Conditions.wanted c.args.task.now.conditions.now lang in
    let start = c.args.masks.now in
    let cell = c.args.cell in
    let best = c.args.found in
    let v = get_or best cell 0 in
    let single = set start cell (2 ^ v) in
    let next = c.propagate_above.new.masks in
    let is : c.value_mask.result ≡ 2 ^ v = c.value_mask.ensures.mask ∙ ap (λ xs. 2 ^ get_or xs cell 0)
    c.as_slice.ensures.items in
    let found = single_found W start best cell v c.requires.cell refl c.requires.found in
    let rest = found_narrows W lang (length start) c.args.state.now.pool single next best
    c.in_ok-propagate_above.field-0 c.requires.follow found
    (rw is at (rw c.requires.same at c.in_ok-propagate_above.ensures.narrows))
    (rw is at (rw c.requires.same at c.in_ok-propagate_above.ensures.wiped)) in
    let has = value_within start best cell c.requires.cell c.requires.found.within in
    settled_inside single next (cell + 1) rest.inside (settled_set start cell v c.requires.cell has c.requires.settled)

pub returns-clause-found : goal.returns-clause-found
returns-clause-found g c =
    let lang = c.args.task.now.lang.now in
    let W : List ℕ → Type 0 = g.C.Conditions.wanted c.args.task.now.conditions.now lang in
    let start = c.args.masks.now in
    let cell = c.args.cell in
    let best = c.args.found in
    let v = get_or best cell 0 in
    let single = set start cell (2 ^ v) in
    let next = c.propagate_above.new.masks in
    let is : c.value_mask.result ≡ 2 ^ v = c.value_mask.ensures.mask ∙ ap (λ xs. 2 ^ get_or xs cell 0)
    c.as_slice.ensures.items in
    let found = single_found W start best cell v c.requires.cell refl c.requires.found in
    let rest = found_narrows W lang (length start) c.args.state.now.pool single next best
    c.in_ok-propagate_above.field-0 c.requires.follow found
    (rw is at (rw c.requires.same at c.in_ok-propagate_above.ensures.narrows))
    (rw is at (rw c.requires.same at c.in_ok-propagate_above.ensures.wiped)) in
    found_kept W single next best rest found
