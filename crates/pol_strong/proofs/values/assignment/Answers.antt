use Rattle.std.proofs.Common.{◌≡◌, ◌<◌, ℕ, List, length, subst, arith}
use Rattle.pol_strong.specs.Contradictions.{AreOpenNext}
use Rattle.pol_strong.proofs.NextValues.{IsBegun, NextValue, begun_none, begun_push, next_value, avoided_solution, log_ascends, log_below}
use Rattle.pol_strong.proofs.OpenMasks.{open_avoids, open_is_mask}
use Rattle.pol_strong.proofs.values.assignment.Goals as goal

pub loop-init : goal.loop-init
loop-init c =
    rw c.new-values.ensures.empty
    (begun_none c.args.lang.now c.domain-d.ensures.language c.args.inst.now c.requires.fits c.args.log.now
    c.requires.decided)

pub open_values-left-requires : goal.open_values-left-requires
open_values-left-requires c = record {
  ascending = log_ascends c.args.lang.now c.domain-d.ensures.language c.args.inst.now c.requires.fits
      c.args.log.now c.requires.decided;
  below = log_below c.args.lang.now c.domain-d.ensures.language c.args.inst.now c.requires.fits c.args.log.now
      c.requires.decided;
  avoids = rw c.as_slice.ensures.items c.loop.invariant.avoids;
}

pub lowest_value-requires : goal.lowest_value-requires
lowest_value-requires c =
    let log = c.args.log.now in
    let values : List ℕ = c.loop.values in
    let further : length values < length c.args.inst.now.variables
    = omega (arith, c.loop-test.true, c.loop.invariant.tuple.long, c.variables-end.ensures.variables) in
    let next : NextValue c.args.lang.now.domain log values
    = next_value c.args.lang.now c.domain-d.ensures.language c.args.inst.now c.requires.fits log c.requires.decided
    values further
    c.loop.invariant.tuple.below c.loop.invariant.avoids in
    let opens : AreOpenNext c.args.lang.now.domain log (length log) values c.open_values-left.result
    = rw (c.domain-d.ensures.domain, c.as_slice.ensures.items) at c.open_values-left.ensures.next in
    let has = (open_avoids c.args.lang.now.domain log values c.open_values-left.result opens next.value).1
    (next.below, next.avoids) in
    record {
      mask = open_is_mask c.args.lang.now.domain log values
          (length log) c.open_values-left.result next.value c.domain-d.ensures.language.domain_is
          opens has;
    }

pub loop-preserved : goal.loop-preserved
loop-preserved c =
    let log = c.args.log.now in
    let values : List ℕ = c.loop.values in
    let opens : AreOpenNext c.args.lang.now.domain log (length log) values c.open_values-left.result
    = rw (c.domain-d.ensures.domain, c.as_slice.ensures.items) at c.open_values-left.ensures.next in
    let both = (open_avoids c.args.lang.now.domain log values c.open_values-left.result opens
    c.lowest_value.result).0 c.lowest_value.ensures.has in
    rw c.in_ok-push.ensures.ok
    (begun_push c.args.lang.now.domain log c.loop.counter values c.lowest_value.result c.loop.invariant both.0 both.1)

pub returns : goal.returns
returns c =
    let all : c.loop.counter ≡ length c.args.inst.now.variables
    = omega (arith, c.loop.auto.counter-end, c.loop-test.false, c.variables-end.ensures.variables) in
    let begun : IsBegun c.args.lang.now.domain c.args.log.now (length c.args.inst.now.variables) c.loop.values
    = subst (λ (count : ℕ). IsBegun c.args.lang.now.domain c.args.log.now count c.loop.values) all c.loop.invariant in
    record {
      solution = avoided_solution c.args.lang.now c.domain-d.ensures.language c.args.inst.now c.requires.fits
          c.args.log.now c.requires.decided
          c.loop.values begun.tuple begun.avoids;
    }
