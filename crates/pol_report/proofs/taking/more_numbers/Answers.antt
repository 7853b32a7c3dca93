use Rattle.std.proofs.Common.{◌≡◌, ◌<◌, ◌+◌, ◌-◌, ◌∷◌, ◌++◌, [], length, length-append, Err, ap, sym, ◌∙◌, arith, rules}
use Rattle.std.proofs.lemmas.Result.{err_from_is_err_and}
use Rattle.pol_report.specs.Tokens.{to_end, as_number}
use Rattle.pol_report.specs.Reading.{itself, all_behind}
use Rattle.pol_report.proofs.CountLemmas.{to_end-next, to_end-refused, refused_item}
use Rattle.pol_report.proofs.taking.more_numbers.Goals as goal

pub returns-in_err-number_in : goal.returns-in_err-number_in
returns-in_err-number_in c =
    let p = err_from_is_err_and c.from_residual.result c.from_residual.ensures.1 in
    let fail = c.in_err-number_in.field-0.0 in
    let failed : c.from_residual.result ≡ Err fail = p.1 ∙ ap (λ e. Err e) p.2 in
    let token = c.in-Some.token.now in
    let rest = c.next.new.self in
    let first : c.loop-token.token-iterator ≡ token ∷ rest = search rules in
    let few = c.loop-token.invariant.few in
    let numbers = c.loop-token.numbers in
    let room : length numbers < c.args.most = search rules in
    rw failed
    (record { numbers = refused_item itself itself fail (as_number token) (all_behind c.args.numbers (to_end as_number (c.args.most - length c.args.numbers) c.args.tokens)) c.in_err-number_in.ensures.number (λ word e. sym c.loop-token.invariant.same ∙ (ap (λ ts. all_behind numbers (to_end as_number (c.args.most - length numbers) ts)) first ∙ to_end-refused as_number c.args.most numbers token rest word room e)) })

pub loop-token-preserved : goal.loop-token-preserved
loop-token-preserved c =
    let token = c.in-Some.token.now in
    let rest = c.next.new.self in
    let first : c.loop-token.token-iterator ≡ token ∷ rest = search rules in
    let numbers = c.loop-token.numbers in
    let few = c.loop-token.invariant.few in
    let room : length numbers < c.args.most = search rules in
    let v = c.in_ok-number_in.field-0 in
    let longer : length (numbers ++ v ∷ []) ≡ length numbers + 1 = length-append numbers (v ∷ []) in
    rw (c.in_ok-push.ensures.ok, longer)
    (record {
      can = c.loop-token.invariant.can;
      ends = c.loop-token.invariant.ends;
      few = omega arith;
      same = sym (ap (λ ts. all_behind numbers (to_end as_number (c.args.most - length numbers) ts)) first ∙ to_end-next as_number c.args.most numbers token rest v room c.in_ok-number_in.ensures.number) ∙ c.loop-token.invariant.same;
    })
