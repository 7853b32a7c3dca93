use Rattle.std.proofs.Common.{◌≡◌, ℕ, ◌+◌, ◌*◌, ◌%◌, ◌<◌, ◌≤◌, suc, length, get_or, take, ap, ◌∙◌, arith}
use Rattle.std.proofs.lemmas.List.{take_all, get_or-map, length-map}
use Rattle.pol_modp.specs.Equations.{dot}
use Rattle.pol_modp.specs.Combinations.{labels_of}
use Rattle.pol_modp.proofs.Modular.{accumulate}
use Rattle.pol_modp.proofs.DotLemmas.{dot-more}
use Rattle.pol_modp.proofs.SumLemmas.{dot-all}
use Rattle.pol_modp.proofs.sums.left_side.Goals as goal

pub loop-i-preserved : goal.loop-i-preserved
loop-i-preserved c =
    let labels = c.args.labels.now in
    let coefs = c.args.coefs.now in
    let row = c.args.row.now in
    let i = c.loop-i.i in
    let read : ℕ → ℕ = λ v. get_or labels v 0 in
    let ls = labels_of labels row in
    let next : i + 1 ≡ suc i = omega arith in
    let inside : i < length coefs = omega (arith, c.loop-i-test.true) in
    let long = length-map row read in
    let more = dot-more coefs ls i inside (omega (arith, long, c.requires.as_many, inside)) in
    let label = get_or-map read row i 0 0 (omega (arith, c.requires.as_many, inside)) in
    accumulate c.args.d c.loop-i.sum c.plus_times-sum.result (dot (take i coefs) (take i ls)) (get_or coefs i 0 * read (get_or row i 0)) (dot (take (i + 1) coefs) (take (i + 1) ls))
    c.loop-i.invariant c.plus_times-sum.ensures.sum
    (ap (λ n. dot (take n coefs) (take n ls)) next ∙ (more ∙ ap (λ a. dot (take i coefs) (take i ls) + get_or coefs i 0 * a) label))

pub returns : goal.returns
returns c =
    let coefs = c.args.coefs.now in
    let ls = labels_of c.args.labels.now c.args.row.now in
    let i = c.loop-i.i in
    let all : length coefs ≤ i = omega (arith, c.loop-i-test.false) in
    record { side = c.loop-i.invariant ∙ (ap (λ some. dot some (take i ls) % c.args.d) (take_all i coefs all) ∙ ap (λ s. s % c.args.d) (dot-all coefs ls i all)) }
