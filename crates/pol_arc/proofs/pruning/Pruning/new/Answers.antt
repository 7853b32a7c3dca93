use Rattle.pol_nogood.specs.Logs.{StepView}
use Rattle.pol_arc.specs.Pruned.{IsPruned}
use Rattle.pol_arc.proofs.PruningLemmas.{pruned_full}
use Rattle.std.proofs.Common.{◌≡◌, ◌-◌, ◌^◌, List, length, replicate, refl, sym, ◌∙◌, subst}
use Rattle.pol_arc.proofs.pruning.Pruning.new.Goals as goal

pub returns-clause-pruned : goal.returns-clause-pruned
returns-clause-pruned c =
    let masks = c.in_ok-vec.field-0.items in
    let full : masks ≡ replicate (length c.args.inst.now.variables) (2 ^ c.args.lang.now.domain - 1) =
    c.in_ok-vec.ensures.items_if_clones_equal (λ y e. e) ∙ rw (c.full_mask.ensures.all, c.variables.ensures.variables, c.domain-d.ensures.domain) refl in
    subst (λ (log : List StepView). IsPruned c.args.lang.now c.args.inst.now masks log) (sym c.new.ensures.empty)
    (pruned_full c.args.lang.now c.args.inst.now masks full)
