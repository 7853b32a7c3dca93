use Rattle.std.proofs.Common.{◌<◌, length, sym, subst, arith}
use Rattle.pol_optable.specs.Operations.{Preserves}
use Rattle.pol_checker.specs.Verdicts.{Keeps}
use Rattle.pol_checker.proofs.TableLemmas.{each_relation, one_more, first_failing}
use Rattle.pol_checker.proofs.tables.first_broken.Goals as goal

pub returns-then-not-preserves-clause-first : goal.returns-then-not-preserves-clause-first
returns-then-not-preserves-clause-first g c =
    let inside : c.loop-i.i < length c.args.lang.now.relations = omega (arith, c.loop-i-test.true, c.len-i-end.ensures.relations) in
    first_failing (Keeps c.args.lang.now c.args.table.now) (length c.args.lang.now.relations) c.loop-i.i c.preserves.result inside c.loop-i.invariant c.if-not-preserves.true
    (λ kept. c.preserves.ensures.preserves.1 (subst (Preserves c.args.table.now) (sym c.relation.ensures.relation) kept))

pub loop-i-preserved : goal.loop-i-preserved
loop-i-preserved g c =
    one_more (Keeps c.args.lang.now c.args.table.now) c.loop-i.i c.loop-i.invariant
    (subst (Preserves c.args.table.now) c.relation.ensures.relation (c.preserves.ensures.preserves.0 c.if-not-preserves.false))

pub returns-clause-none : goal.returns-clause-none
returns-clause-none g c =
    each_relation (Preserves c.args.table.now) c.args.lang.now
    (λ r inside. c.loop-i.invariant r (omega (arith, inside, c.loop-i-test.false, c.len-i-end.ensures.relations)))
