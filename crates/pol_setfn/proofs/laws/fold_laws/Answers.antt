use Rattle.pol_setfn.proofs.FoldLemmas.{fold_preserves}
use Rattle.pol_setfn.proofs.laws.fold_laws.Goals as goal

pub returns : goal.returns
returns c = record {
  preserves = λ f g r table s fold is same keeps. fold_preserves f r table.arity_is keeps is.tuples g fold same;
}
