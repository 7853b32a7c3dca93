use Rattle.std.proofs.Common.{◌≡◌, ◌≤◌, ◌<◌, ◌+◌, ◌*◌, ◌%◌, suc, length, get_or, take, ap, ◌∙◌, arith}
use Rattle.std.proofs.lemmas.List.{take_all}
use Rattle.pol_modp.specs.Equations.{dot}
use Rattle.pol_modp.proofs.Modular.{accumulate}
use Rattle.pol_modp.proofs.DotLemmas.{dot-more, dot-take}
use Rattle.pol_modp.proofs.row_steps.dot_of.Goals as goal

pub loop-i-preserved : goal.loop-i-preserved
loop-i-preserved c =
    let row = c.args.row.now in
    let ys = c.args.ys.now in
    let i = c.loop-i.i in
    let next : i + 1 ≡ suc i = omega arith in
    let inside : i < length ys = omega (arith, c.loop-i-test.true) in
    let more = dot-more row ys i (omega (arith, c.requires.within)) inside in
    record {
      sum = accumulate c.args.p c.loop-i.sum c.plus_times-sum.result (dot (take i row) (take i ys)) (get_or row i 0 * get_or ys i 0) (dot (take (i + 1) row) (take (i + 1) ys))
          c.loop-i.invariant.sum c.plus_times-sum.ensures.sum (ap (λ n. dot (take n row) (take n ys)) next ∙ more);
      below = c.plus_times-sum.ensures.below;
    }

pub returns-clause-dot : goal.returns-clause-dot
returns-clause-dot c =
    let row = c.args.row.now in
    let ys = c.args.ys.now in
    let i = c.loop-i.i in
    let all : length ys ≤ i = omega (arith, c.loop-i-test.false) in
    c.loop-i.invariant.sum ∙ (ap (λ some. dot (take i row) some % c.args.p) (take_all i ys all) ∙ ap (λ s. s % c.args.p) (dot-take i row ys all))
