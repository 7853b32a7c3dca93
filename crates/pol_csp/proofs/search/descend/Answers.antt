use Rattle.std.proofs.Common.{List, ℕ, ◌≡◌, length, arith, subst}
use Rattle.pol_base.proofs.MaskLemmas.{masks_more}
use Rattle.pol_csp.specs.Searching.{IsSettled}
use Rattle.pol_csp.proofs.Searching.{settled_none, leads_kept, leads_trans, least_left, found_narrows, found_kept}
use Rattle.pol_csp.proofs.search.descend.Goals as goal

pub propagate_above-requires-clause-masks : goal.propagate_above-requires-clause-masks
propagate_above-requires-clause-masks g c =
    masks_more c.args.task.now.lang.now.domain 5 c.args.masks.now
    (omega (arith, c.size-size.ensures.within.few, c.domain.ensures.domain)) c.requires.masks

pub loop-cell-init : goal.loop-cell-init
loop-cell-init g c =
    let lang = c.args.task.now.lang.now in
    let W : List ℕ → Type 0 = g.C.Conditions.wanted c.args.task.now.conditions.now lang in
    let start = c.args.masks.now in
    let next = c.propagate_above.new.masks in
    let rest = found_narrows W lang (length start) c.args.state.now.pool start next c.args.found
    c.in_ok-propagate_above.field-0 c.requires.follow c.requires.found
    (rw c.requires.same at c.in_ok-propagate_above.ensures.narrows)
    (rw c.requires.same at c.in_ok-propagate_above.ensures.wiped) in
    record {
      follow = c.requires.follow;
      leads = leads_kept W start next rest;
      settled = settled_none next;
      found = found_kept W start next c.args.found rest c.requires.found;
    }

pub loop-cell-preserved : goal.loop-cell-preserved
loop-cell-preserved g c =
    let W : List ℕ → Type 0 = g.C.Conditions.wanted c.args.task.now.conditions.now c.args.task.now.lang.now in
    let leads = c.loop-cell.invariant.leads in
    record {
      follow = rw leads.long at c.in_ok-best.ensures.follow;
      leads = leads_trans W c.args.masks.now c.loop-cell.masks c.settle.new.masks leads c.in_ok-best.ensures.leads;
      settled = c.in_ok-best.ensures.settled;
      found = c.in_ok-best.ensures.found;
    }

pub returns : goal.returns
returns g c =
    let W : List ℕ → Type 0 = g.C.Conditions.wanted c.args.task.now.conditions.now c.args.task.now.lang.now in
    let now = c.loop-cell.masks in
    let leads = c.loop-cell.invariant.leads in
    let all : c.loop-cell.cell ≡ length now = omega (arith, leads.long) in
    record {
      least = least_left W c.args.masks.now now c.loop-cell.best leads
          (subst (λ n. IsSettled now n) all c.loop-cell.invariant.settled) c.loop-cell.invariant.found;
    }
