use Rattle.std.proofs.Common.{arith, ◌∷◌, [], length}
use Rattle.std.proofs.lemmas.List.FromFn.{fill_by_all}
use Rattle.pol_optable.specs.Operations.{value_at, column}
use Rattle.pol_maltsev.proofs.row.image_into.Goals as goal

-- each value is written
pub returns : goal.returns
returns c = record {
  image = fill_by_all (λ place. value_at c.args.op.now (column (c.args.one.now ∷ c.args.two.now ∷ c.args.three.now ∷ []) place)) c.loop-place.out (length c.args.out.now) 0
      (cc) (λ k low. c.loop-place.invariant k (omega arith));
}
