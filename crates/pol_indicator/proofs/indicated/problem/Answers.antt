use Rattle.std.proofs.Common.{◌≡◌, ◌+◌, arith, ap, ◌∙◌, length}
use Rattle.pol_indicator.proofs.ListedLemmas.{weight_next, weight_take}
use Rattle.pol_indicator.proofs.ExactLemmas.{fits, exactly}
use Rattle.pol_indicator.proofs.indicated.problem.Goals as goal

pub add_lists-requires-clause-room : goal.add_lists-requires-clause-room
add_lists-requires-clause-room g c =
    let relations = c.args.lang.now.relations in
    let next = weight_next g.row.K relations c.loop-number.number (omega (arith, c.loop-number-test.true, c.len-number-end.ensures.relations)) in
    omega (arith, next, weight_take g.row.K relations (c.loop-number.number + 1), c.requires.few_lists, c.loop-number.invariant.counted)

pub loop-number-preserved : goal.loop-number-preserved
loop-number-preserved g c =
    let relations = c.args.lang.now.relations in
    let next = weight_next g.row.K relations c.loop-number.number (omega (arith, c.loop-number-test.true, c.len-number-end.ensures.relations)) in
    let same = c.in_ok-add_lists.ensures.same in
    record {
      domain = same.domain ∙ c.loop-number.invariant.domain;
      cells = ap length same.masks ∙ c.loop-number.invariant.cells;
      ruled = rw (same.masks, same.ties) c.loop-number.invariant.ruled;
      indicated = c.in_ok-add_lists.ensures.indicated;
      counted = omega (arith, next, c.in_ok-add_lists.ensures.counted, c.loop-number.invariant.counted);
    }

pub returns-clause-fits : goal.returns-clause-fits
returns-clause-fits g c =
    let all : c.loop-number.number ≡ length c.args.lang.now.relations =
    omega (arith, c.loop-number-test.false, c.loop-number.auto.number-end, c.len-number-end.ensures.relations) in
    let rule = g.I.Identity.rule_of c.args.identity.now c.args.lang.now.domain in
    let kept = c.loop-number.invariant in
    fits c.args.lang.now c.domain.ensures.language g.row.K rule c.loop-number.problem kept.domain c.requires.some_arguments c.domain-domain.ensures.problem.are_masks kept.cells kept.ruled (rw all at kept.indicated)

pub returns-clause-exact : goal.returns-clause-exact
returns-clause-exact g c =
    let all : c.loop-number.number ≡ length c.args.lang.now.relations =
    omega (arith, c.loop-number-test.false, c.loop-number.auto.number-end, c.len-number-end.ensures.relations) in
    let rule = g.I.Identity.rule_of c.args.identity.now c.args.lang.now.domain in
    let kept = c.loop-number.invariant in
    exactly c.args.lang.now c.domain.ensures.language g.row.K rule c.loop-number.problem kept.domain c.requires.some_arguments c.domain-domain.ensures.problem.are_masks kept.cells kept.ruled (rw all at kept.indicated)
