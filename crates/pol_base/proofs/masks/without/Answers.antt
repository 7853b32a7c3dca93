use Rattle.pol_base.proofs.MaskLemmas.{set_cleared}
use Rattle.pol_base.proofs.masks.without.Goals as goal

pub returns : goal.returns
returns c = record { others = λ v. set_cleared c.args.mask c.args.value v c.requires.value c.ranges.mask.fits }
