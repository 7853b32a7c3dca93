use Rattle.std.proofs.Common.{◌≡◌, ◌<◌, ◌++◌, ◌∷◌, [], length, length-append, Err, ap, sym, ◌∙◌, arith}
use Rattle.pol_nogood.specs.Nogoods.{Pair}
use Rattle.std.proofs.lemmas.Result.{err_from_is_err_and}
use Rattle.pol_report.specs.Tokens.{counted}
use Rattle.pol_report.specs.Certificates.{pair_from}
use Rattle.pol_report.specs.Reading.{itself, pair_named}
use Rattle.pol_report.proofs.CountLemmas.{counted-next, counted-refused, refused_part, told_true}
use Rattle.pol_report.proofs.taking.take_pairs.Goals as goal

pub returns-in_err-variable : goal.returns-in_err-variable
returns-in_err-variable c =
    let p = err_from_is_err_and c.from_residual.result c.from_residual.ensures.1 in
    let fail = c.in_err-variable.field-0.0 in
    let failed : c.from_residual.result ≡ Err fail = p.1 ∙ ap (λ e. Err e) p.2 in
    rw failed
    (record { took = refused_part pair_named itself fail c.take_pair.new.tokens c.take_pair.new.tokens (pair_from c.loop.tokens) (counted pair_from c.args.count c.args.tokens.now) c.in_err-variable.ensures.took (λ word e. sym c.loop.invariant.same ∙ counted-refused pair_from c.args.count c.loop.counter c.loop.nogood c.loop.tokens word (omega arith) e) })

pub loop-preserved : goal.loop-preserved
loop-preserved c =
    let before = c.loop.invariant.read in
    let room : length c.loop.nogood < 3 = omega (arith, c.requires.few) in
    let pair : Pair = record { variable = c.in_ok-variable.variable; value = c.in_ok-variable.value } in
    let pushed : c.push-added.new.self ≡ c.loop.nogood ++ pair ∷ [] = told_true c.push-added.result (c.push-added.new.self ≡ c.loop.nogood ++ pair ∷ []) (c.push-added.ensures.added.1 room) c.push-added.ensures.pair in
    rw pushed
    (record {
      read = omega (arith, length-append c.loop.nogood (pair ∷ []));
      same = sym (counted-next pair_from c.args.count c.loop.counter c.loop.nogood c.loop.tokens c.take_pair.new.tokens pair (omega arith) c.in_ok-variable.ensures.took) ∙ c.loop.invariant.same;
    })
