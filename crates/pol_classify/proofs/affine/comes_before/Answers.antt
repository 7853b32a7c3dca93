use Rattle.pol_classify.proofs.LeastLemmas.{before_told}
use Rattle.pol_classify.proofs.affine.comes_before.Goals as goal

pub returns : goal.returns
returns c = record {
  before = rw (c.is_lt.ensures, c.cmp.ensures) (before_told c.args.xs.now c.args.ys.now c.requires.long);
}
