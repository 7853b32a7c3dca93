use Rattle.pol_nogood.specs.Nogoods.{Pair, IsContained}
use Rattle.pol_nogood.specs.Logs.{reading}
use Rattle.pol_nogood.proofs.LogCases.{reading_place}
use Rattle.pol_nogood.proofs.LogMaking.{IsContained-one}
use Rattle.std.proofs.Common.{List, sym, subst}
use Rattle.pol_arc.proofs.supports.reference.Goals as goal

pub returns-then-not-has_value : goal.returns-then-not-has_value
returns-then-not-has_value c = record {
  reference = record {
    known = c.step_of.ensures.known;
    within = subst (λ (pairs : List Pair). IsContained pairs (reading c.args.scope.now c.args.row.now)) (sym c.step_of.ensures.nogood) (IsContained-one _ _ (reading_place c.args.scope.now c.args.row.now c.loop-j.j c.requires.long c.loop-j-test.true));
  };
}
