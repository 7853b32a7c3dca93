use Rattle.std.proofs.Common.{◌≤◌, ◌<◌, length, sym, ap, ◌∙◌, arith}
use Rattle.std.specs.List.{list_all}
use Rattle.std.proofs.lemmas.List.{take_all}
use Rattle.pol_modp.specs.CombinationFaults.{part_placed}
use Rattle.pol_modp.proofs.FirstFailing.{first_failing-at, first_failing-all}
use Rattle.pol_modp.specs.Combinations.{no_part}
use Rattle.pol_modp.proofs.checking.misplaced.Goals as goal

pub returns-then-not-is_placed-clause-first : goal.returns-then-not-is_placed-clause-first
returns-then-not-is_placed-clause-first c =
    let test = part_placed c.args.lang.now c.args.inst.now in
    let parts = c.args.combination.now.parts in
    let inside : c.loop-i.i < length parts = omega (arith, c.loop-i-test.true, c.len-i-end.ensures.parts) in
    sym (first_failing-at test parts c.loop-i.i no_part inside c.loop-i.invariant (ap test (sym c.part.ensures.part) ∙ (sym c.is_placed.ensures.placed ∙ c.if-not-is_placed.true)))

pub returns-clause-first : goal.returns-clause-first
returns-clause-first c =
    let test = part_placed c.args.lang.now c.args.inst.now in
    let parts = c.args.combination.now.parts in
    let all : length parts ≤ c.loop-i.i = omega (arith, c.loop-i-test.false, c.len-i-end.ensures.parts) in
    sym (first_failing-all test parts (sym (ap (list_all test) (take_all c.loop-i.i parts all)) ∙ c.loop-i.invariant))
