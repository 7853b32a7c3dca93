use Rattle.std.proofs.Common.{◌≡◌, true, false, sym, ap, ◌∙◌, arith}
use Rattle.std.specs.List.{list_all}
use Rattle.std.proofs.lemmas.Bool.{OnFalse_at, not_from_false}
use Rattle.std.proofs.lemmas.List.{take_all}
use Rattle.pol_nogood.specs.Nogoods.{Pair}
use Rattle.pol_nogood.specs.FirstPlaces.{agrees_at, agrees_first}
use Rattle.pol_nogood.proofs.PairWalks.{all_fails}
use Rattle.pol_nogood.proofs.PlaceLemmas.{case_excluded, case_read, distinct_read}
use Rattle.pol_nogood.proofs.cases.is_case_at.Goals as goal

pub returns-then-not-agrees_at : goal.returns-then-not-agrees_at
returns-then-not-agrees_at c =
    let p : Pair = record { variable = c.pair-value.result.0; value = c.pair-value.result.1 } in
    let scope = c.args.scope.now in
    let row = c.args.row.now in
    let place = c.requires.places c.loop-i.i p c.pair-value.ensures.pair in
    let fails : agrees_first scope row p ≡ false = ap (λ some. agrees_at row some p.value) (sym place) ∙ (sym c.agrees_at.ensures.agrees ∙ c.if-not-agrees_at.true) in
    record { case = sym (case_excluded scope c.args.nogood.now row (all_fails (agrees_first scope row) c.args.nogood.now c.loop-i.i p c.pair-value.ensures.pair fails)) }

pub returns-then-not-may_repeat : goal.returns-then-not-may_repeat
returns-then-not-may_repeat c =
    let scope = c.args.scope.now in
    let nogood = c.args.nogood.now in
    let row = c.args.row.now in
    let all = take_all c.loop-i.i nogood (omega (arith, c.loop-i-test.false, c.len-i-end.ensures.pairs)) in
    let agrees : list_all (agrees_first scope row) nogood ≡ true = ap (list_all (agrees_first scope row)) (sym all) ∙ c.loop-i.invariant in
    let distinct = OnFalse_at c.if-not-may_repeat.true c.requires.distinct in
    record { case = not_from_false c.args.may_repeat c.if-not-may_repeat.true ∙ sym (case_read scope nogood row agrees ∙ distinct_read scope row distinct) }

pub returns-else-not-may_repeat : goal.returns-else-not-may_repeat
returns-else-not-may_repeat c =
    let scope = c.args.scope.now in
    let nogood = c.args.nogood.now in
    let row = c.args.row.now in
    let all = take_all c.loop-i.i nogood (omega (arith, c.loop-i-test.false, c.len-i-end.ensures.pairs)) in
    let agrees : list_all (agrees_first scope row) nogood ≡ true = ap (list_all (agrees_first scope row)) (sym all) ∙ c.loop-i.invariant in
    record { case = c.reads_one_value.ensures.read ∙ sym (case_read scope nogood row agrees) }
