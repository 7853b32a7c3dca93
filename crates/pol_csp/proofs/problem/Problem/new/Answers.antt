use Rattle.std.proofs.Common.{◌≡◌, ◌∙◌, ◌-◌, ◌^◌, ℕ, ap, subst, arith, replicate, [], ◌∷◌}
use Rattle.std.specs.Prelude.{◌++◌}
use Rattle.std.specs.List.{range_with_len}
use Rattle.pol_base.specs.Masks.{IsMask}
use Rattle.pol_csp.proofs.ProblemLemmas.{ties_more, IsProblem-begun}
use Rattle.pol_csp.proofs.problem.Problem.new.Goals as goal

pub loop-cell-preserved : goal.loop-cell-preserved
loop-cell-preserved c =
    let cell = c.loop-cell.cell in
    c.in_ok-push.ensures.items ∙ ap (λ ties. ties ++ cell ∷ []) c.loop-cell.invariant ∙ ties_more cell

pub invariant_of-result : goal.invariant_of-result
invariant_of-result c =
    let d : ℕ = c.args.d in
    let full : IsMask d (2 ^ d - 1) = subst (IsMask d) c.full_mask.ensures.all c.full_mask.ensures.mask in
    let all : c.loop-cell.cell ≡ c.args.cells = omega (arith, c.loop-cell-test.false, c.loop-cell.auto.cell-end) in
    let filled = c.in_ok-masks.ensures.items_if_clones_equal (λ y e. e) in
    let masks : c.in_ok-masks.masks.items ≡ replicate c.args.cells (2 ^ d - 1) =
    filled ∙ ap (λ mask. replicate c.args.cells mask) c.full_mask.ensures.all in
    let ties : c.loop-cell.ties.items ≡ range_with_len 0 c.args.cells =
    c.loop-cell.invariant ∙ ap (λ n. range_with_len 0 n) all in
    rw (masks, ties, c.new.ensures.empty)
    (IsProblem-begun d c.args.cells c.size-size.ensures.within full c.requires.some c.requires.few)
