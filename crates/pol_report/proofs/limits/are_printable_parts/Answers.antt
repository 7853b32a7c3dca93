use Rattle.std.proofs.Common.{◌<◌, ◌≤◌, length, arith, subst, refl, All}
use Rattle.std.proofs.lemmas.List.{take_all}
use Rattle.std.proofs.lemmas.List.Elements.{All-more}
use Rattle.pol_modp.specs.Combinations.{no_part}
use Rattle.pol_report.specs.Printable.{IsPrintablePart}
use Rattle.pol_report.proofs.limits.are_printable_parts.Goals as goal

-- one more part
pub loop-i-preserved : goal.loop-i-preserved
loop-i-preserved c =
    let inside : c.loop-i.i < length c.args.combination.now.parts = omega (arith, c.loop-i-test.true, c.len-i-end.ensures.parts) in
    let is = rw c.part.ensures.part at (c.if-not-is_printable_part.ensures.printable.0 refl) in
    All-more IsPrintablePart c.args.combination.now.parts c.loop-i.i no_part inside c.loop-i.invariant is

-- all parts are passed
pub returns : goal.returns
returns c =
    let few : length c.args.combination.now.parts ≤ 4096 = omega (arith, c.if-len-gt-MOST_PARTS.false, c.len.ensures.parts) in
    let all : length c.args.combination.now.parts ≤ c.loop-i.i = omega (arith, c.loop-i-test.false, c.len-i-end.ensures.parts) in
    let each = subst (All IsPrintablePart) (take_all c.loop-i.i c.args.combination.now.parts all) c.loop-i.invariant in
    record { printable = ((λ _. record { few = few; each = each }), λ _. refl) }
