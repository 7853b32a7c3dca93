use Rattle.std.proofs.Common.{◌≡◌, ◌<◌, ◌+◌, ◌*◌, ◌%◌, ◌++◌, suc, length, get_or, set, take, drop, ap, ◌∙◌, arith}
use Rattle.pol_modp.specs.Rows.{multiple}
use Rattle.pol_modp.proofs.RowLemmas.{multiple-more}
use Rattle.pol_modp.proofs.row_steps.scale.Goals as goal

pub loop-i-preserved : goal.loop-i-preserved
loop-i-preserved c =
    let p = c.args.p in
    let k = c.args.k in
    let row = c.args.row.now in
    let i = c.loop-i.i in
    let next : suc i ≡ i + 1 = omega arith in
    let inside : i < length row = omega (arith, c.loop-i-test.true) in
    ap (λ x. set c.loop-i.row i x) c.plus_times.ensures.sum
    ∙ (ap (λ some. set some i ((0 + k * get_or some i 0) % p)) c.loop-i.invariant
    ∙ (multiple-more p k row i inside
    ∙ ap (λ n. multiple p k (take n row) ++ drop n row) next))
