use Rattle.std.proofs.Common.{◌∙◌, ◌<◌, length, subst, arith}
use Rattle.std.specs.Io.KnownBytes.{Appends}
use Rattle.std.proofs.lemmas.Result.{MatchResult-from_err}
use Rattle.pol_modp.specs.Combinations.{no_part}
use Rattle.pol_text.specs.Texts.{GrowsByFrontIn}
use Rattle.pol_text.proofs.TextLemmas.{joined-front, joined-appended}
use Rattle.pol_report.specs.Texts.{part_line}
use Rattle.pol_report.proofs.part_lines.put_parts.Goals as goal

-- a front of one more part
pub returns-in_err-put_part-clause-puts : goal.returns-in_err-put_part-clause-puts
returns-in_err-put_part-clause-puts g c =
    let inside : c.loop-i.i < length c.args.combination.now.parts = omega (arith, c.loop-i-test.true, c.len-i-end.ensures.parts) in
    let front = subst (λ p. GrowsByFrontIn (g.T.Text.bytes c.loop-i.out) (g.T.Text.bytes c.put_part.new.out) (part_line p)) c.part.ensures.part c.in_err-put_part.ensures.puts in
    MatchResult-from_err c.from_residual.result _ _ c.from_residual.ensures.0 (λ _. joined-front part_line c.args.combination.now.parts c.loop-i.i no_part _ _ _ inside c.loop-i.invariant.so_far front)

-- one more part
pub loop-i-preserved : goal.loop-i-preserved
loop-i-preserved g c =
    let inside : c.loop-i.i < length c.args.combination.now.parts = omega (arith, c.loop-i-test.true, c.len-i-end.ensures.parts) in
    let more = subst (λ p. Appends (g.T.Text.bytes c.loop-i.out) (g.T.Text.bytes c.put_part.new.out) (part_line p)) c.part.ensures.part c.in_ok-put_part.ensures.puts in
    record {
      so_far = joined-appended part_line c.args.combination.now.parts c.loop-i.i no_part _ _ _ inside c.loop-i.invariant.so_far more;
      place = c.in_ok-put_part.ensures.place ∙ c.loop-i.invariant.place;
      sent = omega (arith, c.in_ok-put_part.ensures.sent, c.loop-i.invariant.sent);
      calm = c.in_ok-put_part.ensures.calm ∙ c.loop-i.invariant.calm;
    }
