use Rattle.std.proofs.Common.{◌≡◌, Err, ap, sym, ◌∙◌, arith}
use Rattle.std.proofs.lemmas.Result.{err_from_is_err_and}
use Rattle.pol_report.specs.Tokens.{counted, one, as_number}
use Rattle.pol_report.specs.Reading.{itself}
use Rattle.pol_report.proofs.CountLemmas.{counted-next, counted-refused, refused_part}
use Rattle.pol_report.proofs.taking.take_numbers.Goals as goal

pub returns-in_err-take_number : goal.returns-in_err-take_number
returns-in_err-take_number c =
    let p = err_from_is_err_and c.from_residual.result c.from_residual.ensures.1 in
    let fail = c.in_err-take_number.field-0.0 in
    let failed : c.from_residual.result ≡ Err fail = p.1 ∙ ap (λ e. Err e) p.2 in
    rw failed
    (record { took = refused_part itself itself fail c.take_number.new.tokens c.take_number.new.tokens (one as_number c.loop.tokens) (counted (one as_number) c.args.count c.args.tokens.now) c.in_err-take_number.ensures.took (λ word e. sym c.loop.invariant ∙ counted-refused (one as_number) c.args.count c.loop.counter c.loop.numbers c.loop.tokens word (omega arith) e) })

pub loop-preserved : goal.loop-preserved
loop-preserved c =
    rw c.in_ok-push.ensures.ok
    (sym (counted-next (one as_number) c.args.count c.loop.counter c.loop.numbers c.loop.tokens c.take_number.new.tokens c.in_ok-take_number.field-0 (omega arith) c.in_ok-take_number.ensures.took) ∙ c.loop.invariant)
