use Rattle.std.proofs.Common.{List, ℕ, sym, subst, arith}
use Rattle.pol_base.proofs.MaskLemmas.{within_below, masks_more}
use Rattle.pol_csp.proofs.Searching.{none_of_one}
use Rattle.pol_csp.proofs.Wording.{refuted}
use Rattle.pol_csp.proofs.search.leaf.Goals as goal

pub lowest_values-requires : goal.lowest_values-requires
lowest_values-requires g c = record {
  masks = masks_more c.args.task.now.lang.now.domain 5 c.args.masks.now
      (omega (arith, c.size-size.ensures.within.few, c.domain.ensures.domain)) c.requires.masks;
}

pub more-requires-clause-tuple : goal.more-requires-clause-tuple
more-requires-clause-tuple g c =
    let tuple = within_below c.args.task.now.lang.now.domain c.args.masks.now c.in_ok-values.values c.requires.masks
    c.in_ok-values.ensures.within in
    rw (c.as_slice.ensures.items, tuple.long) tuple

pub returns-clause-found : goal.returns-clause-found
returns-clause-found g c =
    let W : List ℕ → Type 0 = g.C.Conditions.wanted c.args.task.now.conditions.now c.args.task.now.lang.now in
    none_of_one W c.args.masks.now c.in_ok-values.values c.requires.settled c.in_ok-values.ensures.within
    (λ wanted. refuted c.in_ok-wanted.wanted c.if-wanted.false
    (c.in_ok-wanted.ensures.wanted.1 (subst W (sym c.as_slice.ensures.items) wanted)))
