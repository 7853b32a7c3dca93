use Rattle.std.proofs.Common.{◌∙◌, ◌<◌, length, sym, subst, arith}
use Rattle.std.specs.Io.KnownBytes.{Appends}
use Rattle.std.proofs.lemmas.Option.{get_or_from_slice_get}
use Rattle.std.proofs.lemmas.Result.{MatchResult-from_err}
use Rattle.pol_nogood.specs.Nogoods.{Pair}
use Rattle.pol_text.specs.Texts.{GrowsByFrontIn, spaced_texts}
use Rattle.pol_text.proofs.TextLemmas.{joined-front, joined-appended}
use Rattle.pol_report.specs.Texts.{pair_tokens}
use Rattle.pol_report.proofs.step_lines.put_pairs.Goals as goal

-- a front of one more pair
pub returns-in_err-put_pair-clause-puts : goal.returns-in_err-put_pair-clause-puts
returns-in_err-put_pair-clause-puts g c =
    let p : Pair = record { variable = c.pair-variable.result.0; value = c.pair-variable.result.1 } in
    let inside : c.loop-i.i < length c.args.nogood.now = omega (arith, c.loop-i-test.true, c.len-i-end.ensures.pairs) in
    let is = sym (get_or_from_slice_get c.args.nogood.now c.loop-i.i p p c.pair-variable.ensures.pair) in
    let front = subst (λ q. GrowsByFrontIn (g.T.Text.bytes c.loop-i.out) (g.T.Text.bytes c.put_pair.new.out) (spaced_texts (pair_tokens q))) is c.in_err-put_pair.ensures.puts in
    MatchResult-from_err c.from_residual.result _ _ c.from_residual.ensures.0 (λ _. joined-front (λ q. spaced_texts (pair_tokens q)) c.args.nogood.now c.loop-i.i p _ _ _ inside c.loop-i.invariant.so_far front)

-- one more pair
pub loop-i-preserved : goal.loop-i-preserved
loop-i-preserved g c =
    let p : Pair = record { variable = c.pair-variable.result.0; value = c.pair-variable.result.1 } in
    let inside : c.loop-i.i < length c.args.nogood.now = omega (arith, c.loop-i-test.true, c.len-i-end.ensures.pairs) in
    let is = sym (get_or_from_slice_get c.args.nogood.now c.loop-i.i p p c.pair-variable.ensures.pair) in
    let more = subst (λ q. Appends (g.T.Text.bytes c.loop-i.out) (g.T.Text.bytes c.put_pair.new.out) (spaced_texts (pair_tokens q))) is c.in_ok-put_pair.ensures.puts in
    record {
      so_far = joined-appended (λ q. spaced_texts (pair_tokens q)) c.args.nogood.now c.loop-i.i p _ _ _ inside c.loop-i.invariant.so_far more;
      place = c.in_ok-put_pair.ensures.place ∙ c.loop-i.invariant.place;
      sent = omega (arith, c.in_ok-put_pair.ensures.sent, c.loop-i.invariant.sent);
      calm = c.in_ok-put_pair.ensures.calm ∙ c.loop-i.invariant.calm;
    }
