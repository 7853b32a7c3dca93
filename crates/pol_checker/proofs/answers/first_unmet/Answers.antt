use Rattle.std.proofs.Common.{arith}
use Rattle.pol_relation.specs.Instances.{ConstraintView, Meets}
use Rattle.pol_checker.specs.Verdicts.{MeetsAt}
use Rattle.pol_checker.proofs.TableLemmas.{each_constraint, one_more}
use Rattle.pol_checker.proofs.answers.first_unmet.Goals as goal

pub loop-c-preserved : goal.loop-c-preserved
loop-c-preserved c =
    one_more (MeetsAt c.args.lang.now c.args.inst.now c.args.assignment.now) c.loop-c.c c.loop-c.invariant
    (c.meets.ensures.meets.0 c.if-not-meets.false)

pub returns-clause-none : goal.returns-clause-none
returns-clause-none c = record {
  assigns = c.requires.assigns;
  meets = each_constraint (λ (k : ConstraintView). Meets c.args.lang.now k c.args.assignment.now) c.args.inst.now
      (λ i inside. c.loop-c.invariant i (omega (arith, inside, c.loop-c-test.false, c.constraints-c-end.ensures.constraints)));
}
