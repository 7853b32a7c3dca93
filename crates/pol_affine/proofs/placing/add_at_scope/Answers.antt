use Rattle.std.proofs.Common.{◌≡◌, suc, ◌+◌, ◌%◌, ◌<◌, [], length, get_or, set, take, All, sym, ap, ◌∙◌, subst, arith}
use Rattle.pol_affine.specs.Systems.{weights}
use Rattle.pol_affine.proofs.Weights.{weights-none, weights-more, weights-below}
use Rattle.pol_affine.proofs.placing.add_at_scope.Goals as goal

-- without places
pub loop-i-init : goal.loop-i-init
loop-i-init c =
    let d = c.args.d in
    let n = length c.args.row.now in
    let empty = c.requires.nothing ∙ weights-none d n in
    (empty, subst (All (λ a. a < d)) (sym empty) (weights-below d n [] [] c.size-size.ensures.within.some))

-- one place on
pub loop-i-preserved : goal.loop-i-preserved
loop-i-preserved c =
    let d = c.args.d in
    let n = length c.args.row.now in
    let scope = c.args.scope.now in
    let coefs = c.args.coefs.now in
    let i = c.loop-i.i in
    let x = get_or scope i 0 in
    let next : suc i ≡ i + 1 = omega arith in
    let inside : i < length coefs = omega (arith, c.loop-i-test.true) in
    let known : x < n = c.requires.scope i 0 (omega (arith, inside, c.requires.as_many)) in
    let more
    = ap (λ m. set c.loop-i.row x ((get_or c.loop-i.row x 0 + get_or coefs i 0) % m)) c.size-size.ensures.size
    ∙ (ap (λ row. set row x ((get_or row x 0 + get_or coefs i 0) % d)) c.loop-i.invariant.0
    ∙ (weights-more d n scope coefs i inside (omega (arith, c.requires.as_many)) known ∙ ap (λ k. weights d n (take k scope) (take k coefs)) next)) in
    (more, subst (All (λ a. a < d)) (sym more) (weights-below d n (take (i + 1) scope) (take (i + 1) coefs) c.size-size.ensures.within.some))
