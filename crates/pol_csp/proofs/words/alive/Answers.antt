use Rattle.std.proofs.Common.{get_or, length, arith, ◌<◌, ◌*◌, ◌+◌}
use Rattle.pol_base.specs.Masks.{IsMask}
use Rattle.pol_base.proofs.BitLemmas.{set_and}
use Rattle.pol_csp.proofs.Wording.{all_set, with_word, equal_word}
use Rattle.pol_csp.proofs.words.alive.Goals as goal
use Rattle.pol_csp.proofs.words.alive.Goals.{then-scope-other, else-scope-other}

pub loop-place-init : goal.loop-place-init
loop-place-init c row h lies same = all_set row (omega (arith, h, c.requires.words.few))

pub loop-other-init : goal.loop-other-init
loop-other-init c row h lies same =
    let place = c.loop-place.place in
    let cell = get_or c.args.scope.now place 0 in
    let known : cell < length c.args.masks.now = c.requires.cells place 0 c.loop-place-test.true in
    let mask : IsMask 5 (get_or c.args.masks.now cell 0) = c.requires.masks cell 0 known in
    let small : get_or c.args.masks.now cell 0 < 32 = mask.below in
    set_and c.loop-place.alive (get_or c.args.withs.now (place * 32 + get_or c.args.masks.now cell 0) 0) row
    (c.loop-place.invariant row h lies same)
    (with_word c.args.r.now.rows c.args.withs.now place (get_or c.args.masks.now cell 0) row c.requires.words.reads
    (omega (arith, c.loop-place-test.true, c.requires.long, c.requires.words.withs_counted, small)) small h
    (lies place c.loop-place-test.true))

pub loop-other-preserved : goal.loop-other-preserved
loop-other-preserved c row h lies same =
    let place = c.loop-place.place in
    let other = c.loop-other.other in
    elim c.if-scope-other.branch [
      | then-scope-other w ↦ rw w.alive-is (set_and c.loop-other.alive
          (get_or c.args.equals.now (other * 6 + place) 0) row (c.loop-other.invariant row h lies same)
          (equal_word c.args.r.now.rows c.args.equals.now other place row c.requires.words.equal
          c.requires.words.equals_counted
          (omega (
            arith,
            c.loop-place-test.true,
            c.loop-other-test.true,
            c.loop-other.auto.other-end,
            c.requires.long,
            c.arity-arity.ensures.relation.few_places,
          ))
          (omega (arith, c.loop-place-test.true, c.requires.long, c.arity-arity.ensures.relation.few_places)) h
          (same other place (omega (
            arith,
            c.loop-place-test.true,
            c.loop-other-test.true,
            c.loop-other.auto.other-end,
          )) c.loop-place-test.true w.if-scope-other.true)))
      | else-scope-other w ↦ rw w.alive-is (c.loop-other.invariant row h lies same)
    ]
