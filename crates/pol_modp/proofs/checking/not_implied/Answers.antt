use Rattle.std.proofs.Common.{◌≤◌, ◌<◌, length, sym, ap, ◌∙◌, arith}
use Rattle.std.specs.List.{list_all}
use Rattle.std.proofs.lemmas.List.{take_all}
use Rattle.pol_modp.specs.CombinationFaults.{part_implied}
use Rattle.pol_modp.proofs.FirstFailing.{first_failing-at, first_failing-all}
use Rattle.pol_modp.specs.Parts.{part_named}
use Rattle.pol_modp.specs.Combinations.{no_part}
use Rattle.pol_modp.proofs.checking.not_implied.Goals as goal

pub returns-then-not-is_implied : goal.returns-then-not-is_implied
returns-then-not-is_implied c =
    let lang = c.args.lang.now in
    let inst = c.args.inst.now in
    let test = part_implied lang inst c.args.combination.now.labels in
    let parts = c.args.combination.now.parts in
    let inside : c.loop-i.i < length parts = omega (arith, c.loop-i-test.true, c.len-i-end.ensures.parts) in
    let fails = ap test (sym c.part.ensures.part) ∙ (ap (λ labels. part_implied lang inst labels (part_named c.part.result.now)) (sym c.labels.ensures.labels) ∙ (sym c.is_implied.ensures.implied ∙ c.if-not-is_implied.true)) in
    record { first = sym (first_failing-at test parts c.loop-i.i no_part inside c.loop-i.invariant fails) }

pub returns : goal.returns
returns c =
    let test = part_implied c.args.lang.now c.args.inst.now c.args.combination.now.labels in
    let parts = c.args.combination.now.parts in
    let all : length parts ≤ c.loop-i.i = omega (arith, c.loop-i-test.false, c.len-i-end.ensures.parts) in
    record { first = sym (first_failing-all test parts (sym (ap (list_all test) (take_all c.loop-i.i parts all)) ∙ c.loop-i.invariant)) }
