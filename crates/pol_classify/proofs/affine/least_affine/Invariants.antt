use Rattle.std.proofs.Common.{◌≡◌}
use Rattle.std.specs.Prelude.{option_map, IfSome}
use Rattle.pol_base.specs.Least.{AnswersLeast}
use Rattle.pol_classify.specs.AffineTables.{IsTableBelow}
use Rattle.pol_classify.proofs.affine.least_affine.Given as goal

abbrev pub invariant-loop-number : goal.invariant-loop-number
invariant-loop-number l = record {
  least : AnswersLeast (IsTableBelow l.fn.lang l.number) (option_map (λ t. t.cells) l.best);
  domain : IfSome l.best (λ t. t.domain ≡ l.fn.lang.domain);
}
